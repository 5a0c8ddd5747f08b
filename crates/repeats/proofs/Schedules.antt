-- Two initial values that differ never have the same schedule and the same first plaintext at once, under every algorithm; and where they have
-- one mode key, no block in common. Assumes nothing.
use mathlib.Core.Path.{◌≡◌, refl, sym, ap, ◌∙◌}
use mathlib.Core.List.{List}
use Prim.Native.Nat.{ℕ, ◌+◌, ◌*◌, ◌/◌, ◌%◌, ◌<◌}
use native.Mathlib.Nat.{zero-add, add-zero}
use native.Mathlib.Omega.{arith}
use lib.ListN.{length, get_or}
use lib.Seq.{ext_get_or}
use Rattle.laws.specs.Lists.{tabulate}
use Rattle.laws.proofs.Lists.{length-tabulate, get_d_tabulate, tabulate-at}
use Rattle.words.specs.Words.{join}
use Rattle.schedule.specs.Schedule.{packed, key_word}
use Rattle.rijndael.specs.Cipher.{cipher}
use Rattle.schedule.proofs.KeyWords.{word_first}
use Rattle.algorithms.specs.Algorithm.{combining}
use Rattle.tea.specs.Mixing.{mixed_value}
use Rattle.tea.specs.Mode.{first_of, second_of, mode_key, mode_by, mode_of}
use Rattle.tea.specs.Keystream.{plaintext, block_of}
use Rattle.both_ways.proofs.Blocks.{cipher-apart}
use Rattle.both_ways.proofs.Steps.{below-four}
use Rattle.repeats.specs.Repeats.{Bytes, InitialValue}
use Rattle.repeats.proofs.MixedValues.{mixed-small}
use Rattle.repeats.proofs.Modes.{Telling, all-telling, entry-small, pair-apart}
use Rattle.repeats.proofs.Plaintexts.{plaintext-block, value-told, mode-good}

-- the 24 bytes of a key
abbrev Key : List ℕ → Type 0
Key k = (length k ≡ 24) × ((i : ℕ) → i < 24 → get_or k i 0 < 256)

-- a word of a key tells its four bytes
join-told : (a b c d e f g h : ℕ) → a < 256 → b < 256 → c < 256 → d < 256 → e < 256 → f < 256 → g < 256 → h < 256 → join a b c d ≡ join e f g h
    → (a ≡ e) × (b ≡ f) × (c ≡ g) × (d ≡ h)
join-told a b c d e f g h ha hb hc hd he hf hg hh z =
    let p : a ≡ e = omega arith in
    let q : b ≡ f = omega arith in
    let r : c ≡ g = omega arith in
    (p, q, r, omega arith)

word-told : (k l : List ℕ) → Key k → Key l → (i : ℕ) → i < 6 → packed k i ≡ packed l i → (r : ℕ) → r < 4 → get_or k (4 * i + r) 0 ≡ get_or l (4 * i + r) 0
unfolding packed
word-told k l p q i h e =
    let t =
    join-told _ _ _ _ _ _ _ _ (p.1 (4 * i) (omega arith)) (p.1 (4 * i + 1) (omega arith)) (p.1 (4 * i + 2) (omega arith)) (p.1 (4 * i + 3) (omega arith))
    (q.1 (4 * i) (omega arith)) (q.1 (4 * i + 1) (omega arith)) (q.1 (4 * i + 2) (omega arith)) (q.1 (4 * i + 3) (omega arith)) e in
    below-four (λ r. get_or k (4 * i + r) 0 ≡ get_or l (4 * i + r) 0) (rw add-zero t.0) t.1 t.2 t.3

-- the first six words of a schedule tell the key
schedule-told : (k l : List ℕ) → Key k → Key l → tabulate (key_word k) 0 120 ≡ tabulate (key_word l) 0 120 → k ≡ l
schedule-told k l p q e =
    ext_get_or 0 k l (p.0 ∙ sym q.0)
    (λ n h.
    let long : length k ≡ 24 = p.0 in
    let i : n / 4 < 6 = omega arith in
    let z : 4 * (n / 4) + n % 4 ≡ n = omega arith in
    ap (λ (j : ℕ). get_or k j 0) (sym z) ∙ word-told k l p q (n / 4) i (word (n / 4) i) (n % 4) (omega arith) ∙ ap (λ (j : ℕ). get_or l j 0) z)
  where
    word : (i : ℕ) → i < 6 → packed k i ≡ packed l i
    word i h =
        let m : i < 120 = omega arith in
        word_first k i h ∙ sym (tabulate-at (key_word k) 0 refl i m) ∙ ap (λ (w : List ℕ). get_or w i 0) e ∙ tabulate-at (key_word l) 0 refl i m ∙ sym (word_first l i h)

halves_small : (a b : ℕ) → a < 256 → b < 256 → a / 16 * 16 + b / 16 < 256
halves_small a b ha hb = omega arith

mode-key : (f : List ℕ) → Telling f → (ck : List ℕ) → Bytes ck → (v : List ℕ) → ((k : ℕ) → k < 24 → get_or v k 0 < 256) → Key (mode_key f ck v)
unfolding mode_key
mode-key f good ck small-key v small = (
  length-tabulate _ 0 24,
  λ k h.
      let a = small k h in
      let b = small-key k in
      rw (get_d_tabulate (λ j. first_of f ck v j / 16 * 16 + second_of f ck v j / 16) 0 24 k 0 h, zero-add)
      (halves_small (first_of f ck v k) (second_of f ck v k) (entry-small f good ck small-key _ _ (omega arith) (omega arith)) (entry-small f good ck small-key _ _ (omega arith) (omega arith))),
)

mode-key-of : (algorithm : ℕ) (ck iv : List ℕ) → Bytes ck → InitialValue iv → Key (mode_of algorithm ck iv).key
unfolding mode_of mode_by
mode-key-of algorithm ck iv k p = mode-key (combining algorithm) (all-telling algorithm) ck k (mixed_value iv) (mixed-small iv p.long p.bytes)

-- one algorithm and key, two initial values: the same schedule and the same first plaintext, only if they are the same initial value
pub starts_apart : (algorithm : ℕ) (ck x y : List ℕ) → Bytes ck → InitialValue x → InitialValue y
    → tabulate (key_word (mode_of algorithm ck x).key) 0 120 ≡ tabulate (key_word (mode_of algorithm ck y).key) 0 120
    → plaintext (mode_of algorithm ck x).value (mode_of algorithm ck x).digit 0 ≡ plaintext (mode_of algorithm ck y).value (mode_of algorithm ck y).digit 0 → x ≡ y
starts_apart algorithm ck x y k p q e g =
    pair-apart algorithm ck x y k p q
    (schedule-told (mode_of algorithm ck x).key (mode_of algorithm ck y).key (mode-key-of algorithm ck x k p) (mode-key-of algorithm ck y k q) e)
    (value-told (mode_of algorithm ck x).value (mode_of algorithm ck y).value _ _ 0 0 (mode-good algorithm ck x).long (mode-good algorithm ck y).long g)

-- and where two initial values that differ have one mode key, no block of one keystream is a block of the other
pub no-common-block : (algorithm : ℕ) (ck x y : List ℕ) → Bytes ck → InitialValue x → InitialValue y → (mode_of algorithm ck x).key ≡ (mode_of algorithm ck y).key
    → (r q : ℕ) → block_of (mode_of algorithm ck x) r ≡ block_of (mode_of algorithm ck y) q → x ≡ y
unfolding block_of
no-common-block algorithm ck x y k p q e i j z =
    pair-apart algorithm ck x y k p q e
    (value-told (mode_of algorithm ck x).value (mode_of algorithm ck y).value _ _ i j (mode-good algorithm ck x).long (mode-good algorithm ck y).long
    (cipher-apart (mode_of algorithm ck x).key (plaintext-block (mode-good algorithm ck x) i) (plaintext-block (mode-good algorithm ck y) j)
    (z ∙ ap (λ (l : List ℕ). cipher l (plaintext (mode_of algorithm ck y).value (mode_of algorithm ck y).digit j)) (sym e))))
