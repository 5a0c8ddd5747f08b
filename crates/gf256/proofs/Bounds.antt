-- Products with a byte, the inverse of a byte and the S-box at a byte are bytes. Assumes nothing.
use mathlib.Core.Bool.{Bool, true, false}
use Prim.Native.Nat.{ℕ, zero, suc, ◌/◌, ◌%◌, ◌<◌, zero-le}
use native.Mathlib.Omega.{arith}
use borrow.Author.Tests.{ltb-true}
use lib.Bits.{xor_lt}
use lib.Dec.{ltb, eqb, lit<}
use Rattle.laws.specs.Choice.{pick}
use Rattle.laws.proofs.Tests.{holds}
use Rattle.gf256.specs.Field.{times_z, sum_over, times, times_squares, inverse, turned, affine, s_box}

shifted : (b : ℕ) → b < 256 → times_z b < 256
shifted b h = ltb-true (times_z b) 256 (holds (λ x. ltb (times_z x) 256) 0 256 tt b zero-le h)

chosen : (t : Bool) (b : ℕ) → b < 256 → pick t b 0 < 256
chosen true b h = h
chosen false b h = lit< tt

sum_lt : (n a b : ℕ) → b < 256 → sum_over n a b < 256
sum_lt zero a b h = lit< tt
sum_lt (suc n) a b h = xor_lt 8 _ _ (chosen (eqb (a % 2) 1) b h) (sum_lt n (a / 2) (times_z b) (shifted b h))

pub times-lt : (a b : ℕ) → b < 256 → times a b < 256
unfolding times
times-lt = sum_lt 8

squares-lt : (n x r : ℕ) → x < 256 → r < 256 → times_squares n x r < 256
squares-lt zero x r hx hr = hr
squares-lt (suc n) x r hx hr = squares-lt n (sum_over 8 x x) (sum_over 8 r (sum_over 8 x x)) (sum_lt 8 x x hx) (sum_lt 8 r (sum_over 8 x x) (sum_lt 8 x x hx))

turned_lt : (b : ℕ) → b < 256 → turned b < 256
turned_lt b h = omega arith

pub s-box-lt : (b : ℕ) → b < 256 → s_box b < 256
unfolding s_box affine inverse
s-box-lt b h =
    let i = squares-lt 7 b 1 h (lit< tt) in
    let t = turned_lt _ i in
    let u = turned_lt _ t in
    let v = turned_lt _ u in
    xor_lt 8 _ _ i (xor_lt 8 _ _ t (xor_lt 8 _ _ u (xor_lt 8 _ _ v (xor_lt 8 _ _ (turned_lt _ v) (lit< tt)))))
