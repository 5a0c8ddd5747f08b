-- The mended text of a damaged sheet (document 02, [12]). Assumes nothing: these are definitions.
use Rattle.std.specs.Prelude.{Bool, List, [], ◌∷◌, ◌++◌, ℕ, zero, suc, ◌+◌, eqb, drop}
use Rattle.laws.specs.Choice.{pick}
use Rattle.writing.specs.Text.{ascii, lf}
use Rattle.line_parts.specs.Line.{equals}
use Rattle.line_names.specs.Names.{form_name, key_name, name_count, name_text, has_name}
use Rattle.line_faults.specs.Faults.{zeros_dropped, lower_hex}
use Rattle.sheet_faults.specs.Sheet.{is_form_two, value_named}

-- a text with A to F as a to f
unfoldable pub lowered : List ℕ → List ℕ
lowered [] = []
lowered (b ∷ s) = lower_hex b ∷ lowered s

-- the value under the name of number k, mended: a number without leading zeros, the key's digits in lower case, a word as it is
unfoldable pub mended_value : ℕ → List ℕ → List ℕ
mended_value k value =
    let digits = drop (zeros_dropped k value) value in
    pick (eqb k key_name) (lowered digits) digits

-- what form 1 gains: `form=2`, and 0 for both network codes
unfoldable pub gained : ℕ → List ℕ
gained k = pick (eqb k form_name) (ascii "2") (ascii "0")

-- the value under the name of number k in the mended text
unfoldable pub value_mended : Bool → List (List ℕ) → ℕ → List ℕ
value_mended two lines k = pick (has_name two k) (mended_value k (value_named k lines)) (gained k)

unfoldable pub line_mended : Bool → List (List ℕ) → ℕ → List ℕ
line_mended two lines k = name_text k ++ (equals ∷ (value_mended two lines k ++ (lf ∷ [])))

-- n lines from number k on
unfoldable pub lines_mended : Bool → List (List ℕ) → ℕ → ℕ → List ℕ
lines_mended two lines k zero = []
lines_mended two lines k (suc n) = line_mended two lines k ++ lines_mended two lines (k + 1) n

-- the ten lines of form 2, each with the value that the sheet has under its name
unfoldable pub text_mended : List (List ℕ) → List ℕ
text_mended lines = lines_mended (is_form_two lines) lines 0 name_count
