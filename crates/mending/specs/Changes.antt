-- The changes that were made in mending a sheet, and the text with them (document 02, [12]). Assumes nothing: these are definitions.
use Rattle.std.specs.Prelude.{Bool, not, ◌&&◌, List, [], ◌∷◌, ◌++◌, ℕ, eqb, length}
use Rattle.laws.specs.Choice.{pick}
use Rattle.writing.specs.Text.{ascii, lf}
use Rattle.refusals.specs.Numbers.{done}
use Rattle.record_reader.specs.Record.{record_read}
use Rattle.line_faults.specs.declared.Fault.TheVariants.{Crlf, Hex, Zeros, Spaces}
use Rattle.sheet_faults.specs.Sheet.{is_form_two, any_fault, in_order_from}
use Rattle.mended_text.specs.Text.{text_mended}

-- a text is one record and nothing after it
unfoldable pub is_record : List ℕ → Bool
is_record s = eqb (record_read s).refusal done && eqb (record_read s).used (length s)

-- a line for a change, if it was made
unfoldable pub change_text : Bool → List ℕ → List ℕ
change_text made name = pick made (ascii "changed=" ++ (name ++ (lf ∷ []))) []

-- the changes that were made, in the document's order
unfoldable pub changes_text : List (List ℕ) → List ℕ
changes_text lines =
    change_text (any_fault Crlf lines) (ascii "crlf")
    ++ (change_text (any_fault Hex lines) (ascii "hex")
    ++ (change_text (any_fault Zeros lines) (ascii "zeros")
    ++ (change_text (any_fault Spaces lines) (ascii "spaces")
    ++ (change_text (not (in_order_from 0 lines)) (ascii "order")
    ++ change_text (not (is_form_two lines)) (ascii "form")))))

-- the record, and then the changes
unfoldable pub sheet_mended : List (List ℕ) → List ℕ
sheet_mended lines = text_mended lines ++ changes_text lines
