-- The steps of a round (the Rijndael proposal, 4.2), by what stands in each row and column of a state of four rows by eight columns.
-- Assumes nothing: these are definitions.
use Rattle.std.specs.Prelude.{List, [], ◌∷◌, ℕ, ◌+◌, ◌*◌, ◌%◌, get_or}
use Rattle.std.specs.Int.Bits.{bit_xor}
use Rattle.laws.specs.Lists.{cell, grid}
use Rattle.gf256.specs.Field.{times, s_box}
use Rattle.words.specs.Words.{byte_of}

-- 4.2.1
unfoldable pub byte_sub : List (List ℕ) → List (List ℕ)
byte_sub s = grid 4 8 (λ r c. s_box (cell s r c))

-- 4.2.2, table 2: how far row r turns left at blocks of 256 bits
abbrev pub shift_of : ℕ → ℕ
shift_of r = get_or (0 ∷ 1 ∷ 3 ∷ 4 ∷ []) r 0

unfoldable pub shift_row : List (List ℕ) → List (List ℕ)
shift_row s = grid 4 8 (λ r c. cell s r ((c + shift_of r) % 8))

-- 4.2.3: a byte of a mixed column, from its own row's byte on downwards
unfoldable pub mixed_byte : ℕ → ℕ → ℕ → ℕ → ℕ
mixed_byte a b c d = bit_xor (bit_xor (bit_xor (times 2 a) (times 3 b)) c) d

unfoldable pub mix_column : List (List ℕ) → List (List ℕ)
mix_column s = grid 4 8 (λ r c. mixed_byte (cell s r c) (cell s ((r + 1) % 4) c) (cell s ((r + 2) % 4) c) (cell s ((r + 3) % 4) c))

-- 4.2.4: word 8 n + c of the schedule w is column c of round n's key
unfoldable pub add_round_key : List ℕ → ℕ → List (List ℕ) → List (List ℕ)
add_round_key w n s = grid 4 8 (λ r c. bit_xor (cell s r c) (byte_of (get_or w (8 * n + c) 0) r))

-- 4.2: round n, and the final round, which mixes no column
abbrev pub round_of : List ℕ → ℕ → List (List ℕ) → List (List ℕ)
round_of w n s = add_round_key w n (mix_column (shift_row (byte_sub s)))

abbrev pub final_round : List ℕ → ℕ → List (List ℕ) → List (List ℕ)
final_round w n s = add_round_key w n (shift_row (byte_sub s))
