-- GF(2^8) with the polynomial x^8 + x^4 + x^3 + x + 1 (ETSI TS 104 053-2, clause 5.2; the Rijndael proposal, 2.1), M and the S-box.
-- Assumes nothing: these are definitions.
use Rattle.std.specs.Prelude.{List, ℕ, zero, suc, ◌+◌, ◌*◌, ◌/◌, ◌%◌, ltb, eqb}
use Rattle.std.specs.Int.Bits.{bit_xor}
use Rattle.laws.specs.Choice.{pick}
use Rattle.laws.specs.Lists.{tabulate}

-- z times b: a shift, less the polynomial (0x11b) where a bit goes out
abbrev pub times_z : ℕ → ℕ
times_z b = pick (ltb b 128) (b * 2) (bit_xor (b * 2) 0x11b)

-- the sum of b, z b, z^2 b, .. over the digits 1 of a, the lowest digit first; n digits
abbrev pub sum_over : ℕ → ℕ → ℕ → ℕ
sum_over zero a b = 0
sum_over (suc n) a b = bit_xor (pick (eqb (a % 2) 1) b 0) (sum_over n (a / 2) (times_z b))

-- a times b
unfoldable pub times : ℕ → ℕ → ℕ
times a b = sum_over 8 a b

-- r times x^2, x^4, ..: n of them
abbrev pub times_squares : ℕ → ℕ → ℕ → ℕ
times_squares zero x r = r
times_squares (suc n) x r = times_squares n (sum_over 8 x x) (sum_over 8 r (sum_over 8 x x))

-- the inverse of x, and 0 for 0: x to the power 254 = 2 + 4 + .. + 128
unfoldable pub inverse : ℕ → ℕ
inverse x = times_squares 7 x 1

-- the eight digits turned left by one place
abbrev pub turned : ℕ → ℕ
turned b = b * 2 % 256 + b / 128

-- the affine map (the Rijndael proposal, 4.2.1): digit i of the result is digits i, i - 1, i - 2, i - 3 and i - 4 of b, summed, and digit i of 0x63
unfoldable pub affine : ℕ → ℕ
affine b =
    let b1 = turned b in
    let b2 = turned b1 in
    let b3 = turned b2 in
    bit_xor b (bit_xor b1 (bit_xor b2 (bit_xor b3 (bit_xor (turned b3) 0x63))))

-- the S-box (the Rijndael proposal, 4.2.1)
unfoldable pub s_box : ℕ → ℕ
s_box x = affine (inverse x)

-- the S-box as a table
unfoldable pub s_boxes : List ℕ
s_boxes = tabulate s_box 0 256
