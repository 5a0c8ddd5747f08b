-- The two S-boxes undo each other: their affine maps do, and the inverse of the inverse is the byte itself, each by one test of 256. Assumes nothing.
use mathlib.Core.Path.{◌≡◌, ap, ◌∙◌}
use Prim.Native.Nat.{ℕ, zero, suc, ◌<◌, zero-le}
use native.Mathlib.Omega.{arith}
use lib.Bits.{xor_lt}
use lib.Dec.{lit<}
use Rattle.laws.proofs.Tests.{agree}
use Rattle.gf256.specs.Field.{sum_over, times_squares, inverse, turned, affine, s_box}
use Rattle.inv_bytes.specs.Bytes.{inv_affine, inv_s_box}
use Rattle.both_ways.proofs.Sums.{over-small}

squares-small : (n x r : ℕ) → x < 256 → r < 256 → times_squares n x r < 256
squares-small zero x r p q = q
squares-small (suc n) x r p q = squares-small n (sum_over 8 x x) (sum_over 8 r (sum_over 8 x x)) (over-small 8 x x p) (over-small 8 r (sum_over 8 x x) (over-small 8 x x p))

inverse-small : (x : ℕ) → x < 256 → inverse x < 256
unfolding inverse
inverse-small x h = squares-small 7 x 1 h (lit< tt)

turned-small : (b : ℕ) → b < 256 → turned b < 256
turned-small b h = omega arith

affine-small : (b : ℕ) → b < 256 → affine b < 256
unfolding affine
affine-small b h =
    let h1 = turned-small b h in
    let h2 = turned-small (turned b) h1 in
    let h3 = turned-small (turned (turned b)) h2 in
    xor_lt 8 _ _ h (xor_lt 8 _ _ h1 (xor_lt 8 _ _ h2 (xor_lt 8 _ _ h3 (xor_lt 8 _ _ (turned-small (turned (turned (turned b))) h3) (lit< tt)))))

inv-affine-small : (b : ℕ) → b < 256 → inv_affine b < 256
unfolding inv_affine
inv-affine-small b h =
    let h1 = turned-small b h in
    let h2 = turned-small (turned b) h1 in
    let h3 = turned-small (turned (turned b)) h2 in
    let h4 = turned-small (turned (turned (turned b))) h3 in
    let h5 = turned-small (turned (turned (turned (turned b)))) h4 in
    xor_lt 8 _ _ h1 (xor_lt 8 _ _ h3 (xor_lt 8 _ _ (turned-small (turned (turned (turned (turned (turned b))))) h5) (lit< tt)))

inverse-twice : (x : ℕ) → x < 256 → inverse (inverse x) ≡ x
unfolding inverse
inverse-twice x h = agree (λ y. inverse (inverse y)) (λ y. y) 0 256 tt x zero-le h

affine-back : (x : ℕ) → x < 256 → inv_affine (affine x) ≡ x
unfolding affine inv_affine
affine-back x h = agree (λ y. inv_affine (affine y)) (λ y. y) 0 256 tt x zero-le h

affine-again : (x : ℕ) → x < 256 → affine (inv_affine x) ≡ x
unfolding affine inv_affine
affine-again x h = agree (λ y. affine (inv_affine y)) (λ y. y) 0 256 tt x zero-le h

pub s-box-small : (x : ℕ) → x < 256 → s_box x < 256
unfolding s_box
s-box-small x h = affine-small (inverse x) (inverse-small x h)

pub inv-s-box-small : (x : ℕ) → x < 256 → inv_s_box x < 256
unfolding inv_s_box
inv-s-box-small x h = inverse-small (inv_affine x) (inv-affine-small x h)

pub s-box-back : (x : ℕ) → x < 256 → inv_s_box (s_box x) ≡ x
unfolding s_box inv_s_box
s-box-back x h = ap inverse (affine-back (inverse x) (inverse-small x h)) ∙ inverse-twice x h

pub s-box-again : (x : ℕ) → x < 256 → s_box (inv_s_box x) ≡ x
unfolding s_box inv_s_box
s-box-again x h = ap affine (inverse-twice (inv_affine x) (inv-affine-small x h)) ∙ affine-again x h
