-- What `vectors` prints for a case. Assumes nothing: these are definitions.
use Rattle.std.specs.Prelude.{List, [], ◌∷◌, ◌++◌, ℕ, eqb, length}
use Rattle.laws.specs.Choice.{pick}
use Rattle.refusals.specs.Numbers.{done}
use Rattle.span.specs.Span.{xored}
use Rattle.tea.specs.Mixing.{mixed_value}
use Rattle.tea.specs.Mode.{mode_of}
use Rattle.keystream.specs.Stream.{keystream}
use Rattle.writing.specs.Text.{ascii, lf, digits, hex_text, line_text}
use Rattle.lines.specs.Line.{space, index_of, up_to}
use Rattle.case_reader.specs.Case.{Case, is_readable, case_of, refusal_of}

-- bytes and a space
abbrev pub value_text : List ℕ → List ℕ
value_text bytes = hex_text bytes ++ (space ∷ [])

-- mixed value, mode key, mode value
unfoldable pub mode_text : ℕ → List ℕ → List ℕ → List ℕ
mode_text algorithm key iv =
    value_text (mixed_value iv)
    ++ (value_text (mode_of algorithm key iv).key
    ++ value_text (mode_of algorithm key iv).value)

-- the buffer after its bits from `start` on were xored with the keystream's from `skip` on
unfoldable pub ciphered_case : Case → List ℕ
ciphered_case c = xored c.buffer (keystream c.algorithm c.key c.iv) c.start c.skip c.bits

abbrev pub buffer_text : Case → List ℕ
buffer_text c = hex_text (ciphered_case c) ++ (lf ∷ [])

unfoldable pub accepted_text : Case → List ℕ
accepted_text c = mode_text c.algorithm c.key c.iv ++ buffer_text c

abbrev pub refused_text : ℕ → List ℕ
refused_text refusal = line_text "refused=" (digits refusal)

abbrev pub unreadable_text : List ℕ
unreadable_text = ascii "unreadable\n"

-- the answer to a line without its LF
unfoldable pub case_text : List ℕ → List ℕ
case_text line =
    pick (is_readable line)
    (pick (eqb (refusal_of (case_of line)) done) (accepted_text (case_of line)) (refused_text (refusal_of (case_of line))))
    unreadable_text

-- the answer to the first line of a text. A line without its LF is not readable
unfoldable pub answer_text : List ℕ → List ℕ
answer_text s = pick (eqb (index_of lf s) (length s)) unreadable_text (case_text (up_to lf s))

-- every answer fits a buffer of this many bytes: three values, and 8,192 bytes
abbrev pub answer_room : ℕ
answer_room = 16532
