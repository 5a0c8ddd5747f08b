-- What a part says: a decimal number of 64 bits without leading zeros, or bytes by two lower-case hex digits each.
-- Assumes nothing: these are definitions.
use Rattle.std.specs.Prelude.{Option, Some, None, Bool, true, false, not, ◌&&◌, List, [], ◌∷◌, ◌++◌, ℕ, ◌+◌, ◌*◌, ◌/◌, ◌%◌, eqb, length, get_or}
use Rattle.laws.specs.Choice.{pick}
use Rattle.laws.specs.Lists.{tabulate}
use Rattle.writing.specs.Text.{lf}
use Rattle.forms.specs.Form.{Outcome, found, wrong, read_at}
use Rattle.forms.specs.Decimals.{decimal}
use Rattle.forms.specs.Hexes.{is_hex, hex_value}

-- a number; or, of a text that is none, no number and 0
pub record Number : Type 0 where
  pub good : Bool
  pub value : ℕ

-- the largest number of 64 bits
abbrev pub largest : ℕ
largest = 18446744073709551615

abbrev pub good_number : ℕ → Number
good_number n = record { good = true; value = n }

abbrev pub no_number : Number
no_number = record { good = false; value = 0 }

-- a number that a text may have
abbrev pub as_number : Option ℕ → Number
as_number (Some n) = good_number n
as_number None = no_number

-- the number that was read, if that took so many bytes
abbrev pub whole_number : ℕ → Outcome ℕ → Number
whole_number size (found n place) = pick (eqb place size) (good_number n) no_number
whole_number size (wrong place) = no_number

-- the number that a whole text is: the text and LF, read as the numbers of a record are
unfoldable pub number_of : List ℕ → Number
number_of s = whole_number (length s + 1) (read_at (decimal 0 largest) (s ++ (lf ∷ [])) 0)

unfoldable pub all_hex : List ℕ → Bool
all_hex [] = true
all_hex (c ∷ s) = is_hex c && all_hex s

-- one byte or more
unfoldable pub are_bytes : List ℕ → Bool
are_bytes s = not (eqb (length s) 0) && (eqb (length s % 2) 0 && all_hex s)

-- byte i is that of the digits 2 i and 2 i + 1
unfoldable pub bytes_of : List ℕ → List ℕ
bytes_of s = tabulate (λ i. hex_value (get_or s (2 * i) 0) * 16 + hex_value (get_or s (2 * i + 1) 0)) 0 (length s / 2)
