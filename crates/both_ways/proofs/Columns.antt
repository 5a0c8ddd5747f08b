-- The two column mixings undo each other: by `twice-mixed`, and for each byte of a column by one test of 256. Assumes nothing.
use mathlib.Core.Path.{◌≡◌, sym, ◌∙◌}
use Prim.Native.Nat.{ℕ, ◌<◌, zero-le}
use lib.Bits.{bit_xor, xor_zero_r}
use Rattle.laws.proofs.Tests.{agree}
use Rattle.gf256.specs.Field.{times}
use Rattle.round_steps.specs.Steps.{mixed_byte}
use Rattle.inv_bytes.specs.Bytes.{inv_mixed_byte}
use Rattle.both_ways.proofs.Sums.{times-additive, same-additive, sum4, small4, more4, column, twice-mixed}

-- a column's own byte stays, and of the others nothing does
alone : {a b c d e : ℕ} → a ≡ e → b ≡ 0 → c ≡ 0 → d ≡ 0 → sum4 a b c d ≡ e
alone {a} {b} {c} {d} {e} p q r s = (λ i. sum4 (p i) (q i) (r i) (s i)) ∙ xor_zero_r (bit_xor (bit_xor e 0) 0) ∙ xor_zero_r (bit_xor e 0) ∙ xor_zero_r e

-- with the coefficients 2, 3, 1, 1 and 14, 11, 13, 9
abbrev mix : ℕ → ℕ → ℕ → ℕ → ℕ
mix = column (times 2) (times 3) (λ x. x) (λ x. x)

abbrev unmix : ℕ → ℕ → ℕ → ℕ → ℕ
unmix = column (times 14) (times 11) (times 13) (times 9)

-- what holds of each byte, by one test of 256
abbrev Always : (ℕ → ℕ) → (ℕ → ℕ) → Type 0
Always f g = (x : ℕ) → x < 256 → f x ≡ g x

-- what a byte, and the bytes one, two and three rows below it, leave of themselves
own-stays : Always (λ x. unmix (times 2 x) x x (times 3 x)) (λ x. x)
unfolding times
own-stays x h = agree (λ x. unmix (times 2 x) x x (times 3 x)) (λ x. x) 0 256 tt x zero-le h

next-goes : Always (λ x. unmix (times 3 x) (times 2 x) x x) (λ x. 0)
unfolding times
next-goes x h = agree (λ x. unmix (times 3 x) (times 2 x) x x) (λ x. 0) 0 256 tt x zero-le h

third-goes : Always (λ x. unmix x (times 3 x) (times 2 x) x) (λ x. 0)
unfolding times
third-goes x h = agree (λ x. unmix x (times 3 x) (times 2 x) x) (λ x. 0) 0 256 tt x zero-le h

fourth-goes : Always (λ x. unmix x x (times 3 x) (times 2 x)) (λ x. 0)
unfolding times
fourth-goes x h = agree (λ x. unmix x x (times 3 x) (times 2 x)) (λ x. 0) 0 256 tt x zero-le h

pub unmixed : (a b c d : ℕ) → a < 256 → b < 256 → c < 256 → d < 256
    → inv_mixed_byte (mixed_byte a b c d) (mixed_byte b c d a) (mixed_byte c d a b) (mixed_byte d a b c) ≡ a
unfolding mixed_byte inv_mixed_byte
unmixed a b c d ha hb hc hd =
    twice-mixed (times-additive 14) (times-additive 11) (times-additive 13) (times-additive 9) (times-additive 2) (times-additive 3) same-additive same-additive a b c d ha hb hc hd
    ∙ alone (own-stays a ha) (next-goes b hb) (third-goes c hc) (fourth-goes d hd)

-- the same the other way round
own-stays' : Always (λ x. mix (times 14 x) (times 9 x) (times 13 x) (times 11 x)) (λ x. x)
unfolding times
own-stays' x h = agree (λ x. mix (times 14 x) (times 9 x) (times 13 x) (times 11 x)) (λ x. x) 0 256 tt x zero-le h

next-goes' : Always (λ x. mix (times 11 x) (times 14 x) (times 9 x) (times 13 x)) (λ x. 0)
unfolding times
next-goes' x h = agree (λ x. mix (times 11 x) (times 14 x) (times 9 x) (times 13 x)) (λ x. 0) 0 256 tt x zero-le h

third-goes' : Always (λ x. mix (times 13 x) (times 11 x) (times 14 x) (times 9 x)) (λ x. 0)
unfolding times
third-goes' x h = agree (λ x. mix (times 13 x) (times 11 x) (times 14 x) (times 9 x)) (λ x. 0) 0 256 tt x zero-le h

fourth-goes' : Always (λ x. mix (times 9 x) (times 13 x) (times 11 x) (times 14 x)) (λ x. 0)
unfolding times
fourth-goes' x h = agree (λ x. mix (times 9 x) (times 13 x) (times 11 x) (times 14 x)) (λ x. 0) 0 256 tt x zero-le h

pub mixed-again : (a b c d : ℕ) → a < 256 → b < 256 → c < 256 → d < 256
    → mixed_byte (inv_mixed_byte a b c d) (inv_mixed_byte b c d a) (inv_mixed_byte c d a b) (inv_mixed_byte d a b c) ≡ a
unfolding mixed_byte inv_mixed_byte
mixed-again a b c d ha hb hc hd =
    twice-mixed (times-additive 2) (times-additive 3) same-additive same-additive (times-additive 14) (times-additive 11) (times-additive 13) (times-additive 9) a b c d ha hb hc hd
    ∙ alone (own-stays' a ha) (next-goes' b hb) (third-goes' c hc) (fourth-goes' d hd)

-- both keep bytes bytes
pub mixed-small : (a b c d : ℕ) → a < 256 → b < 256 → c < 256 → d < 256 → mixed_byte a b c d < 256
unfolding mixed_byte
mixed-small a b c d p q r s = small4 (times 2 a) (times 3 b) c d ((times-additive 2).small a p) ((times-additive 3).small b q) r s

pub unmixed-small : (a b c d : ℕ) → a < 256 → b < 256 → c < 256 → d < 256 → inv_mixed_byte a b c d < 256
unfolding inv_mixed_byte
unmixed-small a b c d p q r s =
    small4 (times 14 a) (times 11 b) (times 13 c) (times 9 d) ((times-additive 14).small a p) ((times-additive 11).small b q) ((times-additive 13).small c r) ((times-additive 9).small d s)

-- the inverse mixing of a sum is the sum of the inverse mixings: a round key goes through it by itself
pub unmixed-sum : (a b c d x y z u : ℕ) → a < 256 → b < 256 → c < 256 → d < 256 → x < 256 → y < 256 → z < 256 → u < 256
    → inv_mixed_byte (bit_xor a x) (bit_xor b y) (bit_xor c z) (bit_xor d u) ≡ bit_xor (inv_mixed_byte a b c d) (inv_mixed_byte x y z u)
unfolding inv_mixed_byte
unmixed-sum a b c d x y z u ha hb hc hd hx hy hz hu =
    (λ i. sum4 ((times-additive 14).sum a x ha hx i) ((times-additive 11).sum b y hb hy i) ((times-additive 13).sum c z hc hz i) ((times-additive 9).sum d u hd hu i))
    ∙ sym (more4 (times 14 a) (times 11 b) (times 13 c) (times 9 d) (times 14 x) (times 11 y) (times 13 z) (times 9 u))
