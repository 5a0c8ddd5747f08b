-- The inverse of each step of a round (the Rijndael proposal, 4.2.1 to 4.2.3), by what stands in each row and column. Assumes nothing: these are definitions.
use Rattle.std.specs.Prelude.{List, ℕ, ◌+◌, ◌-◌, ◌%◌}
use Rattle.laws.specs.Lists.{cell, grid}
use Rattle.round_steps.specs.Steps.{shift_of}
use Rattle.inv_bytes.specs.Bytes.{inv_s_box, inv_mixed_byte}

-- 4.2.1
unfoldable pub inv_byte_sub : List (List ℕ) → List (List ℕ)
inv_byte_sub s = grid 4 8 (λ r c. inv_s_box (cell s r c))

-- 4.2.2: row r turns right as far as it turned left
unfoldable pub inv_shift_row : List (List ℕ) → List (List ℕ)
inv_shift_row s = grid 4 8 (λ r c. cell s r ((c + (8 - shift_of r)) % 8))

-- 4.2.3
unfoldable pub inv_mix_column : List (List ℕ) → List (List ℕ)
inv_mix_column s = grid 4 8 (λ r c. inv_mixed_byte (cell s r c) (cell s ((r + 1) % 4) c) (cell s ((r + 2) % 4) c) (cell s ((r + 3) % 4) c))
