-- The lines of a damaged sheet (document 02, [12]): which names they have, in which order, and when that is refused with 25.
-- Assumes nothing: these are definitions.
use Rattle.std.specs.Prelude.{Bool, true, false, not, ◌&&◌, ◌||◌, List, [], ◌∷◌, ℕ, zero, suc, ◌+◌, eqb, ltb, leb, length}
use Rattle.laws.specs.Choice.{pick}
use Rattle.writing.specs.Text.{lf}
use Rattle.line_parts.specs.Line.{ends_with, value_in}
use Rattle.line_names.specs.Names.{form_name, name_count, number_in, has_name}
use Rattle.line_faults.specs.Faults.{has_fault}
use Rattle.line_faults.specs.declared.Fault.{Fault}

-- one byte more before the first line
abbrev pub onto_first : ℕ → List (List ℕ) → List (List ℕ)
onto_first b [] = (b ∷ []) ∷ []
onto_first b (line ∷ lines) = (b ∷ line) ∷ lines

-- the lines of a text, each without the LF that ends it. (What follows the last LF is a line too; such a text is refused.)
unfoldable pub lines_of : List ℕ → List (List ℕ)
lines_of [] = []
lines_of (b ∷ s) = pick (eqb b lf) ([] ∷ lines_of s) (onto_first b (lines_of s))

-- how many lines have the name of number k
unfoldable pub times_named : ℕ → List (List ℕ) → ℕ
times_named k [] = 0
times_named k (line ∷ lines) = pick (eqb (number_in line) k) 1 0 + times_named k lines

-- a `form` line, good or bad, means form 2
unfoldable pub is_form_two : List (List ℕ) → Bool
is_form_two lines = ltb 0 (times_named form_name lines)

-- the value of the first line of a name, or nothing. (A sheet that is not refused has no second.)
unfoldable pub value_named : ℕ → List (List ℕ) → List ℕ
value_named k [] = []
value_named k (line ∷ lines) = pick (eqb (number_in line) k) (value_in line) (value_named k lines)

-- some line has a fault
unfoldable pub any_fault : Fault → List (List ℕ) → Bool
any_fault fault [] = false
any_fault fault (line ∷ lines) = has_fault fault line || any_fault fault lines

-- the names stand in the form's order, from number k on
unfoldable pub in_order_from : ℕ → List (List ℕ) → Bool
in_order_from k [] = true
in_order_from k (line ∷ lines) = leb k (number_in line) && in_order_from (number_in line + 1) lines

-- of n names from number k on, each that the form has is that of one line, and any other that of none. The last number is that of every unknown name
unfoldable pub names_right_from : Bool → List (List ℕ) → ℕ → ℕ → Bool
names_right_from two lines k zero = true
names_right_from two lines k (suc n) = eqb (times_named k lines) (pick (has_name two k) 1 0) && names_right_from two lines (k + 1) n

-- no name is missing, doubled, or unknown for the form
unfoldable pub names_right : List (List ℕ) → Bool
names_right lines = names_right_from (is_form_two lines) lines 0 (name_count + 1)

-- the bytes of a text, at most
abbrev pub most_bytes : ℕ
most_bytes = 4096

-- refused with 25: a longer text, a last line without its LF, or names that are not right
unfoldable pub sheet_bad : List ℕ → Bool
sheet_bad text = ltb most_bytes (length text) || (not (ends_with lf text) || not (names_right (lines_of text)))
