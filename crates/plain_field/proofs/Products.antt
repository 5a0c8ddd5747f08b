-- Products and powers, one turn more of a loop that makes them. Assumes nothing.
use mathlib.Core.Path.{◌≡◌, sym, ap, ◌∙◌}
use Prim.Native.Nat.{ℕ, suc, ◌+◌, ◌-◌, ◌/◌, ◌%◌, ◌<◌}
use native.Mathlib.Omega.{arith}
use lib.Bits.{bit_xor}
use lib.Dec.{eqb}
use Rattle.laws.specs.Choice.{pick}
use Rattle.laws.proofs.Xor.{xor_assoc}
use Rattle.gf256.specs.Field.{times_z, sum_over, times, times_squares}

-- the sum, after n of its eight terms
pub sum_more : (n s a b : ℕ) → n < 8
    → bit_xor s (sum_over (8 - n) a b) ≡ bit_xor (bit_xor s (pick (eqb (a % 2) 1) b 0)) (sum_over (8 - (n + 1)) (a / 2) (times_z b))
sum_more n s a b h =
    let e : 8 - n ≡ suc (8 - (n + 1)) = omega arith in
    ap (λ (m : ℕ). bit_xor s (sum_over m a b)) e ∙ sym (xor_assoc s _ _)

-- the product, after n of the seven squares
pub square-more : (n x r : ℕ) → n < 7 → times_squares (7 - n) x r ≡ times_squares (7 - (n + 1)) (times x x) (times r (times x x))
unfolding times
square-more n x r h =
    let e : 7 - n ≡ suc (7 - (n + 1)) = omega arith in
    ap (λ (m : ℕ). times_squares m x r) e
