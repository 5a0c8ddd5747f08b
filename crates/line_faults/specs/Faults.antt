-- What is mended in a line (document 02, [12]): CR, upper-case hex digits of the key, leading zeros of a number, spaces beside the `=`.
-- Assumes nothing: these are definitions.
use Rattle.std.specs.Prelude.{Bool, true, false, ◌&&◌, ◌||◌, List, [], ◌∷◌, ℕ, ◌+◌, ◌-◌, eqb, ltb, length, take}
use Rattle.laws.specs.Choice.{pick}
use Rattle.fields.specs.Fields.{between}
use Rattle.line_parts.specs.Line.{cr, ends_with, leading, value_in, is_spaced}
use Rattle.line_names.specs.Names.{key_name, number_in, is_decimal}
use Rattle.line_faults.specs.declared.Fault.{Fault}
use Rattle.line_faults.specs.declared.Fault.TheVariants.{Crlf, Hex, Zeros, Spaces}

-- how many zeros a number begins with that are dropped: its last digit stays. 48 is the digit 0
unfoldable pub zeros_in : List ℕ → ℕ
zeros_in value = leading 48 (take (length value - 1) value)

-- how many zeros are dropped from the value under the name of number k: only a number loses any
unfoldable pub zeros_dropped : ℕ → List ℕ → ℕ
zeros_dropped k value = pick (is_decimal k) (zeros_in value) 0

-- A to F
unfoldable pub is_upper_hex : ℕ → Bool
is_upper_hex b = between 65 b 70

unfoldable pub any_upper_hex : List ℕ → Bool
any_upper_hex [] = false
any_upper_hex (b ∷ s) = is_upper_hex b || any_upper_hex s

-- A to F become a to f, and no other byte changes
unfoldable pub lower_hex : ℕ → ℕ
lower_hex b = pick (is_upper_hex b) (b + 32) b

-- a line has a fault
unfoldable pub has_fault : Fault → List ℕ → Bool
has_fault Crlf line = ends_with cr line
has_fault Hex line = eqb (number_in line) key_name && any_upper_hex (value_in line)
has_fault Zeros line = ltb 0 (zeros_dropped (number_in line) (value_in line))
has_fault Spaces line = is_spaced line
