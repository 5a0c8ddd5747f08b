-- A product by a number below 16: the sum of b, 2 b, 4 b and 8 b over its digits 1. Assumes nothing.
use mathlib.Core.Path.{◌≡◌, refl, sym, ap, ◌∙◌}
use Prim.Native.Nat.{ℕ, zero, suc, ◌/◌, ◌%◌, ◌<◌, zero-le}
use native.Mathlib.Omega.{arith}
use lib.Bits.{bit_xor, xor_zero_r}
use lib.Dec.{eqb}
use Rattle.laws.specs.Choice.{pick}
use Rattle.laws.proofs.Tests.{agree}
use Rattle.gf256.specs.Field.{times_z, sum_over, times}
use Rattle.gf256.proofs.Doubling.{double, is-double}

-- z x is doubling without a test
pub z-double : (x : ℕ) → x < 256 → times_z x ≡ double x
z-double x h = agree times_z double 0 256 tt x zero-le h

-- one digit
over-step : (n k x y : ℕ) → x < 256 → y ≡ times 2 x → sum_over (suc n) k x ≡ bit_xor (pick (eqb (k % 2) 1) x 0) (sum_over n (k / 2) y)
over-step n k x y h e = ap (λ (z : ℕ). bit_xor (pick (eqb (k % 2) 1) x 0) (sum_over n (k / 2) z)) (z-double x h ∙ is-double x h ∙ sym e)

-- no digit 1 is left
over_none : (n x : ℕ) → sum_over n 0 x ≡ 0
over_none zero x = refl
over_none (suc n) x = ap (bit_xor 0) (over_none n (times_z x))

times-is : (k x : ℕ) → times k x ≡ sum_over 8 k x
unfolding times
times-is k x = refl

pub product_is : (k b two four eight : ℕ) → k < 16 → b < 256 → two < 256 → four < 256 → eight < 256 → two ≡ times 2 b → four ≡ times 2 two → eight ≡ times 2 four
    → bit_xor (pick (eqb (k % 2) 1) b 0) (bit_xor (pick (eqb (k / 2 % 2) 1) two 0) (bit_xor (pick (eqb (k / 4 % 2) 1) four 0) (pick (eqb (k / 8 % 2) 1) eight 0))) ≡ times k b
product_is k b two four eight h hb h2 h4 h8 e2 e4 e8 =
    let q4 : k / 2 / 2 ≡ k / 4 = omega arith in
    let q8 : k / 4 / 2 ≡ k / 8 = omega arith in
    let none : k / 8 / 2 ≡ 0 = omega arith in
    let d0 = pick (eqb (k % 2) 1) b 0 in
    let d1 = pick (eqb (k / 2 % 2) 1) two 0 in
    let d2 = pick (eqb (k / 4 % 2) 1) four 0 in
    let d3 = pick (eqb (k / 8 % 2) 1) eight 0 in
    sym
    (times-is k b
    ∙ over-step 7 k b two hb e2
    ∙ ap (bit_xor d0) (over-step 6 (k / 2) two four h2 e4)
    ∙ ap (λ (j : ℕ). bit_xor d0 (bit_xor d1 (sum_over 6 j four))) q4
    ∙ ap (λ (x : ℕ). bit_xor d0 (bit_xor d1 x)) (over-step 5 (k / 4) four eight h4 e8)
    ∙ ap (λ (j : ℕ). bit_xor d0 (bit_xor d1 (bit_xor d2 (sum_over 5 j eight)))) q8
    ∙ ap (λ (x : ℕ). bit_xor d0 (bit_xor d1 (bit_xor d2 x)))
    (over-step 4 (k / 8) eight (times 2 eight) h8 refl
    ∙ ap (λ (j : ℕ). bit_xor d3 (sum_over 4 j (times 2 eight))) none
    ∙ ap (bit_xor d3) (over_none 4 (times 2 eight))
    ∙ xor_zero_r d3))
