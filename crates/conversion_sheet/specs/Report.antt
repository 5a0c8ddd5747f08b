-- What `converted` prints of its input (document 02, [11]). Assumes nothing: these are definitions.
use Rattle.std.specs.Prelude.{List, ◌++◌, ℕ, eqb, ltb, length, replicate}
use Rattle.laws.specs.Choice.{pick}
use Rattle.refusals.specs.Numbers.{done, conversion_text_bad}
use Rattle.writing.specs.Text.{digits, item, line_text}
use Rattle.writing.specs.Writing.{at_front}
use Rattle.conversion_pairs.specs.Pairs.{pair_count}
use Rattle.conversion.specs.Conversion.{Checked, checked_as, conversion_checked}
use Rattle.conversion_sheet.specs.declared.Report.{Report}
use Rattle.conversion_sheet.specs.Input.{first_text, behind, pair_numbers}

-- the number of pairs, or the refusal and its pair
unfoldable pub checked_text : Checked → ℕ → List ℕ
checked_text c count =
    pick (eqb c.refusal done)
    (line_text "converted=" (digits count))
    (item "refused=" (digits c.refusal) ++ line_text " pair=" (digits c.place))

-- the longest input that is looked at: no good one is as long
abbrev pub longest_input : ℕ
longest_input = 16384

unfoldable pub conversion_report : List ℕ → List ℕ
conversion_report input =
    let after = behind input in
    let pairs = pair_numbers (behind after) in
    pick (ltb longest_input (length input))
    (checked_text (checked_as conversion_text_bad 0) 0)
    (checked_text (conversion_checked (first_text input) (first_text after) pairs) (pair_count pairs))

-- every report fits so many bytes
abbrev pub report_room : ℕ
report_room = 64

-- a text at the front of a report, with zeros behind it
abbrev pub report_of : List ℕ → Report
report_of text = record { length = length text; text = at_front text (replicate report_room 0) }
