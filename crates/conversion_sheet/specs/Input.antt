-- The input of the program `converted` (document 02, [11]): before records, an empty line, after records, an empty line, and a line for each pair.
-- Assumes nothing: these are definitions.
use Rattle.std.specs.Prelude.{Bool, true, ◌&&◌, List, [], ◌∷◌, ℕ, zero, suc, ◌+◌, ◌-◌, ◌*◌, eqb, length, get_or, take, drop}
use Rattle.laws.specs.Choice.{pick}
use Rattle.writing.specs.Text.{ascii, lf}
use Rattle.forms.specs.Form.{literal, line}
use Rattle.forms.specs.Decimals.{may_begin, may_follow, decimal}
use Rattle.reading.specs.declared.Reading.{Reading}
use Rattle.reading.specs.Reading.{good_to, wrong_at, onward, answer}
use Rattle.conversion_sheet.specs.declared.input.Named.{Named}

abbrev pub blank : ℕ
blank = 32

-- the bytes before the first empty line, which is an LF where a line starts; all bytes where there is none
unfoldable pub before_empty : Bool → List ℕ → ℕ
before_empty starts [] = 0
before_empty starts (b ∷ s) = pick (starts && eqb b lf) 0 (suc (before_empty (eqb b lf) s))

abbrev pub text_size : List ℕ → ℕ
text_size s = before_empty true s

-- a text up to its first empty line, and what stands behind that line

abbrev pub first_text : List ℕ → List ℕ
first_text s = take (text_size s) s

abbrev pub behind : List ℕ → List ℕ
behind s = drop (suc (text_size s)) s

-- a number of a record with a space behind it, of its first three bytes; the place is that behind it in a line
unfoldable pub spaced_number : ℕ → ℕ → ℕ → Reading
spaced_number b c d =
    pick (may_begin 1 32 b)
    (pick (eqb c blank) (good_to (b - 48) 9)
    (pick (may_follow 32 (b - 48) c && eqb d blank) (good_to ((b - 48) * 10 + (c - 48)) 10)
    (wrong_at 0)))
    (wrong_at 0)

-- `before=B after=A` and LF, at the front of a text

unfoldable pub before_read : List ℕ → Reading
before_read s =
    pick (answer (onward (good_to 0 0) (literal (ascii "before=")) s)).good
    (spaced_number (get_or s 7 0) (get_or s 8 0) (get_or s 9 0))
    (wrong_at 0)

unfoldable pub after_read : List ℕ → Reading
after_read s = answer (onward (before_read s) (line "after=" (decimal 1 32)) s)

-- the numbers that the line names; a line of another form names 0 twice, which is no record's number
unfoldable pub named_by : List ℕ → Named
named_by s =
    pick (after_read s).good
    (record { before = (before_read s).value; after = (after_read s).value })
    (record { before = 0; after = 0 })

-- the bytes of the first line, with its LF
unfoldable pub line_size : List ℕ → ℕ
line_size [] = 0
line_size (b ∷ s) = pick (eqb b lf) 1 (suc (line_size s))

-- The numbers of the pairs, a line each. The first argument bounds how many lines are looked at.
unfoldable pub lines_numbers : ℕ → List ℕ → List ℕ
lines_numbers zero s = []
lines_numbers (suc k) s =
    let named = named_by s in
    pick (eqb (length s) 0) [] (named.before ∷ named.after ∷ lines_numbers k (drop (line_size s) s))

-- a 33rd line is one too many, whatever follows it
abbrev pub lines_read : ℕ
lines_read = 33

unfoldable pub pair_numbers : List ℕ → List ℕ
pair_numbers s = lines_numbers lines_read s
