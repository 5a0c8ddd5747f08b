-- The inverse S-box, and a byte of a column that was mixed (the Rijndael proposal, 4.2.1 and 4.2.3). Assumes nothing: these are definitions.
use Rattle.std.specs.Prelude.{List, ℕ}
use Rattle.std.specs.Int.Bits.{bit_xor}
use Rattle.laws.specs.Lists.{tabulate}
use Rattle.gf256.specs.Field.{times, inverse, turned}

-- the inverse of the affine map: digit i of the result is digits i - 1, i - 3 and i - 6 of b, summed, and digit i of 0x05
unfoldable pub inv_affine : ℕ → ℕ
inv_affine b =
    let b1 = turned b in
    let b3 = turned (turned b1) in
    bit_xor b1 (bit_xor b3 (bit_xor (turned (turned (turned b3))) 0x05))

-- 4.2.1: the inverse of the affine map, and then the inverse in GF(2^8)
unfoldable pub inv_s_box : ℕ → ℕ
inv_s_box y = inverse (inv_affine y)

-- the inverse S-box as a table
unfoldable pub inv_s_boxes : List ℕ
inv_s_boxes = tabulate inv_s_box 0 256

-- 4.2.3: a byte of a column that was mixed, from its own row's byte on downwards
unfoldable pub inv_mixed_byte : ℕ → ℕ → ℕ → ℕ → ℕ
inv_mixed_byte a b c d = bit_xor (bit_xor (bit_xor (times 14 a) (times 11 b)) (times 13 c)) (times 9 d)
