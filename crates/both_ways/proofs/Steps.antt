-- The steps of a round and their inverses undo each other on a state of bytes, each pair by one law. Assumes nothing.
use mathlib.Core.Path.{◌≡◌, refl, sym, ap, ◌∙◌}
use mathlib.Core.List.{List, []}
use Prim.Native.Nat.{ℕ, zero, suc, ◌+◌, ◌-◌, ◌*◌, ◌/◌, ◌%◌, ◌<◌, ◌≤◌}
use native.Mathlib.Nat.{mod-lt}
use native.Mathlib.Omega.{arith}
use lib.Bits.{bit_xor, xor_lt}
use lib.Dec.{lit<, lit≤}
use lib.ListN.{length, get_or}
use Rattle.laws.specs.Lists.{tabulate, cell, grid}
use Rattle.laws.proofs.Lists.{length-tabulate, get_d_tabulate}
use Rattle.laws.proofs.States.{Shape, columns-all, grid-at}
use Rattle.laws.proofs.Xor.{xor-back}
use Rattle.gf256.specs.Field.{s_box}
use Rattle.words.specs.Words.{byte_of}
use Rattle.words.proofs.Bytes.{joined}
use Rattle.round_steps.specs.Steps.{byte_sub, shift_of, shift_row, mixed_byte, mix_column, add_round_key}
use Rattle.inv_bytes.specs.Bytes.{inv_s_box, inv_mixed_byte}
use Rattle.inv_parts.specs.Steps.{inv_byte_sub, inv_shift_row, inv_mix_column}
use Rattle.inv_parts.specs.Schedule.{inv_mixed_word}
use Rattle.both_ways.proofs.Columns.{unmixed, mixed-again, mixed-small, unmixed-small, unmixed-sum}
use Rattle.both_ways.proofs.SBoxes.{s-box-small, inv-s-box-small, s-box-back, s-box-again}

-- a state of four rows by eight columns, of bytes
pub record Good (s : List (List ℕ)) : Type 0 where
  pub shape : Shape s
  pub small : (r c : ℕ) → r < 4 → c < 8 → cell s r c < 256

grid-shape : (f : ℕ → ℕ → ℕ) → Shape (grid 4 8 f)
unfolding grid
grid-shape f =
    record {
      rows = length-tabulate _ 0 4;
      row = λ r h. ap length (get_d_tabulate (λ r. tabulate (f r) 0 8) 0 4 r [] h) ∙ length-tabulate (f (0 + r)) 0 8;
    }

pub grid-good : (f : ℕ → ℕ → ℕ) → ((r c : ℕ) → r < 4 → c < 8 → f r c < 256) → Good (grid 4 8 f)
grid-good f h = record { shape = grid-shape f; small = λ r c hr hc. rw (grid-at f refl r c hr hc) (h r c hr hc) }

-- a state is what stands in it
pub is-grid : (f : ℕ → ℕ → ℕ) {s : List (List ℕ)} → Shape s → ((r c : ℕ) → r < 4 → c < 8 → f r c ≡ cell s r c) → grid 4 8 f ≡ s
is-grid f {s} e h = sym (columns-all {f = f} {t = s} {c = 8} (record { upto = lit≤ tt; shape = e; cells = λ r c hr hc l. sym (h r c hr hc) }) (lit≤ tt))

grid-ext : (f g : ℕ → ℕ → ℕ) → ((r c : ℕ) → r < 4 → c < 8 → f r c ≡ g r c) → grid 4 8 f ≡ grid 4 8 g
grid-ext f g h = is-grid f (grid-shape g) (λ r c hr hc. h r c hr hc ∙ sym (grid-at g refl r c hr hc))

-- what holds of rows 0 to 3
pub below-four : (P : ℕ → Type 0) → P 0 → P 1 → P 2 → P 3 → (r : ℕ) → r < 4 → P r
below-four P a b c d zero h = a
below-four P a b c d (suc zero) h = b
below-four P a b c d (suc (suc zero)) h = c
below-four P a b c d (suc (suc (suc zero))) h = d
below-four P a b c d (suc (suc (suc (suc r)))) h = absurd (omega arith)

-- each byte through a map of its own, and each row turned: u r c is where column c of row r comes from
abbrev through : (ℕ → ℕ) → (ℕ → ℕ → ℕ) → List (List ℕ) → List (List ℕ)
through f u s = grid 4 8 (λ r c. cell (grid 4 8 (λ r c. f (cell s r c))) r (u r c))

module _ (f : ℕ → ℕ) (u : ℕ → ℕ → ℕ) (inside : (r c : ℕ) → r < 4 → c < 8 → u r c < 8) where
  through-at : (s : List (List ℕ)) (r c : ℕ) → r < 4 → c < 8 → cell (through f u s) r c ≡ f (cell s r (u r c))
  through-at s r c hr hc = grid-at _ refl r c hr hc ∙ grid-at _ refl r (u r c) hr (inside r c hr hc)

  through-good : ((x : ℕ) → x < 256 → f x < 256) → {s : List (List ℕ)} → Good s → Good (through f u s)
  through-good bytes {s} g =
      record {
        shape = grid-shape _;
        small = λ r c hr hc. rw (through-at s r c hr hc) (bytes (cell s r (u r c)) (g.small r (u r c) hr (inside r c hr hc)));
      }

  -- a second map and turn that undo the first
  through-back : (h : ℕ → ℕ) (v : ℕ → ℕ → ℕ) → ((r c : ℕ) → r < 4 → c < 8 → v r c < 8) → ((x : ℕ) → x < 256 → h (f x) ≡ x)
      → ((r c : ℕ) → r < 4 → c < 8 → u r (v r c) ≡ c) → {s : List (List ℕ)} → Good s → through h v (through f u s) ≡ s
  through-back h v inside' hf uv {s} g =
      is-grid _ g.shape
      (λ r c hr hc.
      let k = inside' r c hr hc in
      grid-at _ refl r (v r c) hr k
      ∙ ap h (through-at s r (v r c) hr k)
      ∙ hf (cell s r (u r (v r c))) (g.small r (u r (v r c)) hr (inside r (v r c) hr k))
      ∙ ap (cell s r) (uv r c hr hc))

-- how far a row turns is below 8
shift_small : (r : ℕ) → r < 4 → shift_of r < 8
shift_small = below-four (λ r. shift_of r < 8) (lit< tt) (lit< tt) (lit< tt) (lit< tt)

left-right : (c k : ℕ) → c < 8 → k < 8 → ((c + (8 - k)) % 8 + k) % 8 ≡ c
left-right c k hc hk = omega arith

right-left : (c k : ℕ) → c < 8 → k < 8 → ((c + k) % 8 + (8 - k)) % 8 ≡ c
right-left c k hc hk = omega arith

-- ByteSub and ShiftRow, one after the other, and their inverses

abbrev pub sub : List (List ℕ) → List (List ℕ)
sub s = shift_row (byte_sub s)

abbrev pub unsub : List (List ℕ) → List (List ℕ)
unsub s = inv_shift_row (inv_byte_sub s)

pub sub-good : {s : List (List ℕ)} → Good s → Good (sub s)
unfolding byte_sub shift_row
sub-good = through-good s_box (λ r c. (c + shift_of r) % 8) (λ r c hr hc. mod-lt _ (lit< tt)) s-box-small

pub unsub-good : {s : List (List ℕ)} → Good s → Good (unsub s)
unfolding inv_byte_sub inv_shift_row
unsub-good = through-good inv_s_box (λ r c. (c + (8 - shift_of r)) % 8) (λ r c hr hc. mod-lt _ (lit< tt)) inv-s-box-small

pub unsub-sub : {s : List (List ℕ)} → Good s → unsub (sub s) ≡ s
unfolding byte_sub shift_row inv_byte_sub inv_shift_row
unsub-sub =
    through-back s_box (λ r c. (c + shift_of r) % 8) (λ r c hr hc. mod-lt _ (lit< tt)) inv_s_box (λ r c. (c + (8 - shift_of r)) % 8) (λ r c hr hc. mod-lt _ (lit< tt))
    s-box-back (λ r c hr hc. left-right c (shift_of r) hc (shift_small r hr))

pub sub-unsub : {s : List (List ℕ)} → Good s → sub (unsub s) ≡ s
unfolding byte_sub shift_row inv_byte_sub inv_shift_row
sub-unsub =
    through-back inv_s_box (λ r c. (c + (8 - shift_of r)) % 8) (λ r c hr hc. mod-lt _ (lit< tt)) s_box (λ r c. (c + shift_of r) % 8) (λ r c hr hc. mod-lt _ (lit< tt))
    s-box-again (λ r c hr hc. right-left c (shift_of r) hc (shift_small r hr))

-- each byte from its column, from its own row on downwards
abbrev Four : Type 0
Four = ℕ → ℕ → ℕ → ℕ → ℕ

abbrev downwards : Four → List (List ℕ) → ℕ → ℕ → ℕ
downwards m s r c = m (cell s r c) (cell s ((r + 1) % 4) c) (cell s ((r + 2) % 4) c) (cell s ((r + 3) % 4) c)

abbrev KeepsBytes : Four → Type 0
KeepsBytes m = (a b c d : ℕ) → a < 256 → b < 256 → c < 256 → d < 256 → m a b c d < 256

columns-good : (m : Four) → KeepsBytes m → {s : List (List ℕ)} → Good s → Good (grid 4 8 (downwards m s))
columns-good m small {s} g =
    grid-good (downwards m s)
    (λ r c hr hc.
    small _ _ _ _ (g.small r c hr hc) (g.small ((r + 1) % 4) c (mod-lt _ (lit< tt)) hc) (g.small ((r + 2) % 4) c (mod-lt _ (lit< tt)) hc)
    (g.small ((r + 3) % 4) c (mod-lt _ (lit< tt)) hc))

columns-back : (m n : Four) → ((a b c d : ℕ) → a < 256 → b < 256 → c < 256 → d < 256 → n (m a b c d) (m b c d a) (m c d a b) (m d a b c) ≡ a)
    → {s : List (List ℕ)} → Good s → grid 4 8 (downwards n (grid 4 8 (downwards m s))) ≡ s
columns-back m n back {s} g = is-grid _ g.shape (λ r c hr hc. row c hc r hr)
  where
    row : (c : ℕ) → c < 8 → (r : ℕ) → r < 4 → downwards n (grid 4 8 (downwards m s)) r c ≡ cell s r c
    row c hc =
        let at : (r : ℕ) → r < 4 → cell (grid 4 8 (downwards m s)) r c ≡ downwards m s r c = λ r hr. grid-at (downwards m s) refl r c hr hc in
        let a0 = at 0 (lit< tt) in
        let a1 = at 1 (lit< tt) in
        let a2 = at 2 (lit< tt) in
        let a3 = at 3 (lit< tt) in
        let s0 = g.small 0 c (lit< tt) hc in
        let s1 = g.small 1 c (lit< tt) hc in
        let s2 = g.small 2 c (lit< tt) hc in
        let s3 = g.small 3 c (lit< tt) hc in
        below-four (λ r. downwards n (grid 4 8 (downwards m s)) r c ≡ cell s r c)
        ((λ i. n (a0 i) (a1 i) (a2 i) (a3 i)) ∙ back _ _ _ _ s0 s1 s2 s3)
        ((λ i. n (a1 i) (a2 i) (a3 i) (a0 i)) ∙ back _ _ _ _ s1 s2 s3 s0)
        ((λ i. n (a2 i) (a3 i) (a0 i) (a1 i)) ∙ back _ _ _ _ s2 s3 s0 s1)
        ((λ i. n (a3 i) (a0 i) (a1 i) (a2 i)) ∙ back _ _ _ _ s3 s0 s1 s2)

pub mix-good : {s : List (List ℕ)} → Good s → Good (mix_column s)
unfolding mix_column
mix-good = columns-good mixed_byte mixed-small

pub unmix-good : {s : List (List ℕ)} → Good s → Good (inv_mix_column s)
unfolding inv_mix_column
unmix-good = columns-good inv_mixed_byte unmixed-small

pub unmix-mix : {s : List (List ℕ)} → Good s → inv_mix_column (mix_column s) ≡ s
unfolding mix_column inv_mix_column
unmix-mix = columns-back mixed_byte inv_mixed_byte unmixed

pub mix-unmix : {s : List (List ℕ)} → Good s → mix_column (inv_mix_column s) ≡ s
unfolding mix_column inv_mix_column
mix-unmix = columns-back inv_mixed_byte mixed_byte mixed-again

-- round keys

byte_small : (x r : ℕ) → byte_of x r < 256
byte_small x r = mod-lt _ (lit< tt)

pub key-good : (w : List ℕ) (n : ℕ) {s : List (List ℕ)} → Good s → Good (add_round_key w n s)
unfolding add_round_key
key-good w n {s} g = grid-good _ (λ r c hr hc. xor_lt 8 _ _ (g.small r c hr hc) (byte_small (get_or w (8 * n + c) 0) r))

pub key_twice : (w : List ℕ) (n : ℕ) {s : List (List ℕ)} → Good s → add_round_key w n (add_round_key w n s) ≡ s
unfolding add_round_key
key_twice w n {s} g =
    is-grid _ g.shape
    (λ r c hr hc. ap (λ (x : ℕ). bit_xor x (byte_of (get_or w (8 * n + c) 0) r)) (grid-at _ refl r c hr hc) ∙ xor-back (cell s r c) (byte_of (get_or w (8 * n + c) 0) r))

-- the same eight words, the same sum
pub key-same : (v w : List ℕ) (n : ℕ) (s : List (List ℕ)) → ((c : ℕ) → c < 8 → get_or v (8 * n + c) 0 ≡ get_or w (8 * n + c) 0) → add_round_key v n s ≡ add_round_key w n s
unfolding add_round_key
key-same v w n s e = grid-ext _ _ (λ r c hr hc. ap (λ (x : ℕ). bit_xor (cell s r c) (byte_of x r)) (e c hc))

-- a byte of a word that went through the inverse mixing
word_byte : (x r : ℕ) → r < 4 → byte_of (inv_mixed_word x) r ≡ inv_mixed_byte (byte_of x r) (byte_of x ((r + 1) % 4)) (byte_of x ((r + 2) % 4)) (byte_of x ((r + 3) % 4))
unfolding inv_mixed_word
word_byte x =
    let s0 = byte_small x 0 in
    let s1 = byte_small x 1 in
    let s2 = byte_small x 2 in
    let s3 = byte_small x 3 in
    let t0 = unmixed-small _ _ _ _ s0 s1 s2 s3 in
    let t1 = unmixed-small _ _ _ _ s1 s2 s3 s0 in
    let t2 = unmixed-small _ _ _ _ s2 s3 s0 s1 in
    let t3 = unmixed-small _ _ _ _ s3 s0 s1 s2 in
    let bytes = joined _ _ _ _ t0 t1 t2 t3 in
    below-four (λ r. byte_of (inv_mixed_word x) r ≡ inv_mixed_byte (byte_of x r) (byte_of x ((r + 1) % 4)) (byte_of x ((r + 2) % 4)) (byte_of x ((r + 3) % 4)))
    (λ i. get_or (bytes i) 0 0) (λ i. get_or (bytes i) 1 0) (λ i. get_or (bytes i) 2 0) (λ i. get_or (bytes i) 3 0)

-- the inverse mixing and then a key that went through it: the key and then the inverse mixing
pub key-through : (v w : List ℕ) (n : ℕ) {s : List (List ℕ)} → Good s → ((c : ℕ) → c < 8 → get_or v (8 * n + c) 0 ≡ inv_mixed_word (get_or w (8 * n + c) 0))
    → add_round_key v n (inv_mix_column s) ≡ inv_mix_column (add_round_key w n s)
unfolding add_round_key inv_mix_column
key-through v w n {s} g e = grid-ext _ _ at
  where
    at : (r c : ℕ) → r < 4 → c < 8
        → bit_xor (cell (grid 4 8 (downwards inv_mixed_byte s)) r c) (byte_of (get_or v (8 * n + c) 0) r)
        ≡ downwards inv_mixed_byte (grid 4 8 (λ r c. bit_xor (cell s r c) (byte_of (get_or w (8 * n + c) 0) r))) r c
    at r c hr hc =
        let x = get_or w (8 * n + c) 0 in
        let h1 : (r + 1) % 4 < 4 = mod-lt _ (lit< tt) in
        let h2 : (r + 2) % 4 < 4 = mod-lt _ (lit< tt) in
        let h3 : (r + 3) % 4 < 4 = mod-lt _ (lit< tt) in
        let sum : (k : ℕ) → k < 4 → cell (grid 4 8 (λ r c. bit_xor (cell s r c) (byte_of (get_or w (8 * n + c) 0) r))) k c ≡ bit_xor (cell s k c) (byte_of x k) = λ k hk. grid-at _ refl k c hk hc in
        (λ i. bit_xor (grid-at (downwards inv_mixed_byte s) refl r c hr hc i) ((ap (λ (y : ℕ). byte_of y r) (e c hc) ∙ word_byte x r hr) i))
        ∙ sym (unmixed-sum _ _ _ _ _ _ _ _ (g.small r c hr hc) (g.small ((r + 1) % 4) c h1 hc) (g.small ((r + 2) % 4) c h2 hc) (g.small ((r + 3) % 4) c h3 hc)
        (byte_small x r) (byte_small x ((r + 1) % 4)) (byte_small x ((r + 2) % 4)) (byte_small x ((r + 3) % 4)))
        ∙ sym (λ i. inv_mixed_byte (sum r hr i) (sum ((r + 1) % 4) h1 i) (sum ((r + 2) % 4) h2 i) (sum ((r + 3) % 4) h3 i))
