-- The inverse of the S-box's definition is the inverse: its product with x is 1. Assumes nothing.
use mathlib.Core.Path.{◌≡◌}
use Prim.Native.Nat.{ℕ, ◌<◌, ◌≤◌}
use native.Mathlib.Omega.{arith}
use Rattle.laws.proofs.Tests.{agree}
use Rattle.gf256.specs.Field.{times, inverse}

pub inverse-is : (x : ℕ) → 1 ≤ x → x < 256 → times x (inverse x) ≡ 1
unfolding times inverse
inverse-is x l h = agree (λ y. times y (inverse y)) (λ y. 1) 1 255 tt x l (omega arith)
