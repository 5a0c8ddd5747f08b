-- The inverse block undoes the cipher, and the cipher the inverse block: for every key, and every block of 32 bytes. Assumes nothing.
use mathlib.Core.Path.{◌≡◌, refl, sym, ap, subst, ◌∙◌}
use mathlib.Core.Logic.{⊎_elim}
use mathlib.Core.List.{List}
use Prim.Native.Nat.{ℕ, ◌+◌, ◌*◌, ◌/◌, ◌%◌, ◌<◌}
use native.Mathlib.Nat.{zero-add}
use native.Mathlib.Omega.{arith}
use lib.Dec.{lit<}
use lib.ListN.{length, get_or, get_or-eq_default}
use Rattle.laws.specs.Lists.{tabulate, cell}
use Rattle.laws.proofs.Cases.{lt-or-le}
use Rattle.laws.proofs.Lists.{length-tabulate, tabulate-at, tabulate-ext}
use Rattle.laws.proofs.States.{grid-at}
use Rattle.schedule.specs.Schedule.{key_word}
use Rattle.rijndael.specs.Cipher.{to_state, to_block, encrypted, cipher}
use Rattle.inv_parts.specs.Schedule.{inv_key_word}
use Rattle.inverse.specs.Decipher.{decrypted, decipher}
use Rattle.both_ways.specs.Block.{Block}
use Rattle.both_ways.proofs.Steps.{Good, grid-good, is-grid}
use Rattle.both_ways.proofs.Rounds.{encrypted-good, decrypted-good, decrypted-back, encrypted-again}

-- a block as a state, and back

state-at : (b : List ℕ) (r c : ℕ) → r < 4 → c < 8 → cell (to_state b) r c ≡ get_or b (4 * c + r) 0
unfolding to_state
state-at b r c hr hc = grid-at _ refl r c hr hc

block_at : (s : List (List ℕ)) (k : ℕ) → k < 32 → get_or (to_block s) k 0 ≡ cell s (k % 4) (k / 4)
unfolding to_block
block_at s k h = tabulate-at (λ k. cell s (k % 4) (k / 4)) 0 refl k h

state-good : {b : List ℕ} → Block b → Good (to_state b)
unfolding to_state
state-good {b} g = grid-good _ (λ r c hr hc. g.bytes (4 * c + r))

state-back : {s : List (List ℕ)} → Good s → to_state (to_block s) ≡ s
unfolding to_state
state-back {s} g =
    is-grid _ g.shape
    (λ r c hr hc.
    let p : (4 * c + r) % 4 ≡ r = omega arith in
    let q : (4 * c + r) / 4 ≡ c = omega arith in
    block_at s (4 * c + r) (omega arith) ∙ (λ i. cell s (p i) (q i)))

block_back : {b : List ℕ} → Block b → to_block (to_state b) ≡ b
unfolding to_block
block_back {b} g =
    sym
    (tabulate-ext (λ k. cell (to_state b) (k % 4) (k / 4)) 0 32 0 b g.long
    (λ k h.
    let e : k ≡ 4 * (k / 4) + k % 4 = omega arith in
    rw zero-add (ap (λ (j : ℕ). get_or b j 0) e ∙ sym (state-at b (k % 4) (k / 4) (omega arith) (omega arith)))))

long : (s : List (List ℕ)) → length (to_block s) ≡ 32
unfolding to_block
long s = length-tabulate _ 0 32

block-good : {s : List (List ℕ)} → Good s → Block (to_block s)
block-good {s} g =
    record {
      long = long s;
      bytes =
          λ k.
          ⊎_elim (λ h. rw (block_at s k h) (g.small (k % 4) (k / 4) (omega arith) (omega arith)))
          (λ h. subst (λ (x : ℕ). x < 256) (sym (get_or-eq_default (to_block s) 0 (omega (arith, long s)))) (lit< tt)) (lt-or-le k 32);
    }

-- both ways round

pub cipher-block : (k : List ℕ) {b : List ℕ} → Block b → Block (cipher k b)
unfolding cipher
cipher-block k g = block-good (encrypted-good k (state-good g))

pub decipher-block : (k : List ℕ) {b : List ℕ} → Block b → Block (decipher k b)
unfolding decipher
decipher-block k g = block-good (decrypted-good k (state-good g))

pub decipher-cipher : (k : List ℕ) {b : List ℕ} → Block b → decipher k (cipher k b) ≡ b
unfolding cipher decipher
decipher-cipher k {b} g =
    let s = state-good g in
    ap (λ (t : List (List ℕ)). to_block (decrypted (tabulate (inv_key_word k) 0 120) t)) (state-back (encrypted-good k s))
    ∙ ap to_block (decrypted-back k s)
    ∙ block_back g

pub cipher-decipher : (k : List ℕ) {b : List ℕ} → Block b → cipher k (decipher k b) ≡ b
unfolding cipher decipher
cipher-decipher k {b} g =
    let s = state-good g in
    ap (λ (t : List (List ℕ)). to_block (encrypted (tabulate (key_word k) 0 120) t)) (state-back (decrypted-good k s))
    ∙ ap to_block (encrypted-again k s)
    ∙ block_back g

-- so that no two blocks have one ciphertext under a key
pub cipher-apart : (k : List ℕ) {b c : List ℕ} → Block b → Block c → cipher k b ≡ cipher k c → b ≡ c
cipher-apart k p q e = sym (decipher-cipher k p) ∙ ap (decipher k) e ∙ decipher-cipher k q
