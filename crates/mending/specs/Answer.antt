-- What mending answers (document 02, [12]): the refusals in their order, what the call leaves, and what the program prints.
-- Assumes nothing: these are definitions.
use Rattle.std.specs.Prelude.{not, List, ℕ, eqb, ltb, length, Result, Ok, Err}
use Rattle.laws.specs.Choice.{pick}
use Rattle.writing.specs.Text.{digits, line_text}
use Rattle.writing.specs.Writing.{at_front}
use Rattle.refusals.specs.Numbers.{done, record_too_long, refuse}
use Rattle.refusals.specs.declared.Refusal.{Refusal}
use Rattle.sheet_faults.specs.Sheet.{lines_of, sheet_bad}
use Rattle.mended_text.specs.Text.{text_mended}
use Rattle.mending.specs.Changes.{is_record, sheet_mended}

-- refusal 25: a name missing, doubled or unknown for the form, a last line without its LF, or a longer text
abbrev pub sheet_names_bad : ℕ
sheet_names_bad = 25

-- refusal 26: a value is still out of form or range
abbrev pub sheet_value_bad : ℕ
sheet_value_bad = 26

-- the order of mending: 25, 26
unfoldable pub mend_refusal : List ℕ → ℕ
mend_refusal text =
    refuse (sheet_bad text) sheet_names_bad
    (refuse (not (is_record (text_mended (lines_of text)))) sheet_value_bad
    done)

-- and then 17, where the buffer has no room for what is printed
unfoldable pub mend_answer : List ℕ → ℕ → ℕ
mend_answer text room =
    refuse (not (eqb (mend_refusal text) done)) (mend_refusal text)
    (refuse (ltb room (length (sheet_mended (lines_of text)))) record_too_long
    done)

-- of mending into a buffer: the refusal, the length of the mended sheet, and the buffer afterwards
pub record MendOut : Type 0 where
  pub refusal : ℕ
  pub length : ℕ
  pub buffer : List ℕ

abbrev pub mend_as : ℕ → ℕ → List ℕ → MendOut
mend_as refusal length buffer = record { refusal = refusal; length = length; buffer = buffer }

-- the length that a mended sheet is answered with, and 0 with a refusal
abbrev pub length_of : Result ℕ Refusal → ℕ
length_of (Ok size) = size
length_of (Err refusal) = 0

-- the mended sheet at the front of the buffer; or the refusal, and the buffer as it was
unfoldable pub mend_out : List ℕ → List ℕ → MendOut
mend_out text buffer =
    let sheet = sheet_mended (lines_of text) in
    pick (eqb (mend_answer text (length buffer)) done)
    (mend_as done (length sheet) (at_front sheet buffer))
    (mend_as (mend_answer text (length buffer)) 0 buffer)

-- no mended sheet is longer: a record is at most 137 bytes, the changes 81
abbrev pub print_room : ℕ
print_room = 218

-- what the program prints: the mended sheet, or only the refusal
unfoldable pub text_printed : List ℕ → ℕ → List ℕ
text_printed text room =
    pick (eqb (mend_answer text room) done) (sheet_mended (lines_of text)) (line_text "refused=" (digits (mend_answer text room)))

-- of printing into a buffer: the length, and the buffer afterwards
pub record PrintOut : Type 0 where
  pub length : ℕ
  pub buffer : List ℕ

abbrev pub print_as : ℕ → List ℕ → PrintOut
print_as length buffer = record { length = length; buffer = buffer }

unfoldable pub print_out : List ℕ → List ℕ → PrintOut
print_out text buffer =
    let t = text_printed text (length buffer) in
    pick (ltb (length buffer) print_room) (print_as 0 buffer) (print_as (length t) (at_front t buffer))
