-- Reading a record (document 01, "Key records" and "Numbers an engineer sees"). What these answers come to, without the forms, is stated in the
-- crate `records`. Assumes nothing: these are definitions.
use Rattle.std.specs.Prelude.{Result, Ok, Err, Bool, true, false, List, ℕ, eqb, get_or}
use Rattle.refusals.specs.Numbers as numbers
use Rattle.fields.specs.Fields.{no_fields}
use Rattle.fields.specs.declared.Fields.{Fields}
use Rattle.record_reader.specs.declared.Record.{Record}
use Rattle.record_reader.specs.declared.BadText.{BadText}
use Rattle.writing.specs.Text.{ascii}
use Rattle.reading.specs.declared.WrongAt.{WrongAt}
use Rattle.reading.specs.declared.Reading.{Reading}
use Rattle.reading.specs.Reading.{good_to, onward, answer}
use Rattle.lines.specs.Line.{line_of, column_of}
use Rattle.forms.specs.Form.{Form, done, literal, Outcome, found, wrong, read_at, line, ◌>>=◌}
use Rattle.forms.specs.Decimals.{decimal}
use Rattle.record_reader.specs.Lines.{use_form, algorithm_form, code_form, key_form, no_key}

-- what a record holds
pub record Entry : Type 0 where
  pub number : ℕ
  pub fields : Fields
  pub key : List ℕ

-- the lines that both forms have, and in form 2 those of the network. Form 1 gives 0 for both codes
unfoldable pub lines_form : Bool → Form Entry
lines_form two = do
  number ← line "number=" (decimal 1 32)
  version ← line "version=" (decimal 0 65535)
  algorithm ← line "alg=" algorithm_form
  usage ← line "use=" use_form
  side ← line "side=" (decimal 0 1)
  place ← line "place=" (decimal 0 79)
  mcc ← code_form two "mcc=" 1023
  mnc ← code_form two "mnc=" 16383
  key ← line "key=" key_form
  done (record {
    number = number;
    fields =
        record { version = version; algorithm = algorithm; usage = usage; side = side; place = place; mcc = mcc; mnc = mnc };
    key = key;
  })

-- a record of form 2, whose first line says so, or of form 1
unfoldable pub record_form : Bool → Form Entry
record_form true = line "form=2\n" (lines_form true)
record_form false = lines_form false

-- the first byte decides which: 102 is f
unfoldable pub starts_form : List ℕ → Bool
starts_form s = eqb (get_or s 0 0) 102

-- what is read before the lines of either form
unfoldable pub opened : Bool → List ℕ → Reading
opened true s = answer (onward (good_to 0 0) (literal (ascii "form=2\n")) s)
opened false s = good_to 0 0

-- a record and how many bytes it took; or refusal 15 with line and column of the first byte that is wrong, and zeros
pub record RecordRead : Type 0 where
  pub refusal : ℕ
  pub line : ℕ
  pub column : ℕ
  pub used : ℕ
  pub number : ℕ
  pub fields : Fields
  pub key : List ℕ

abbrev pub entry_read : Entry → ℕ → RecordRead
entry_read e used = record { refusal = numbers.done; line = 0; column = 0; used = used; number = e.number; fields = e.fields; key = e.key }

abbrev pub refused_at : List ℕ → ℕ → RecordRead
refused_at s place =
    record {
      refusal = numbers.record_text_bad;
      line = line_of s place;
      column = column_of s place;
      used = 0;
      number = 0;
      fields = no_fields;
      key = no_key;
    }

abbrev pub read_answer : List ℕ → Outcome Entry → RecordRead
read_answer s (found e used) = entry_read e used
read_answer s (wrong place) = refused_at s place

-- what reading answers
unfoldable pub record_read : List ℕ → RecordRead
record_read s = read_answer s (read_at (record_form (starts_form s)) s 0)

-- what the readers answer: of the lines, and of a record

abbrev pub entry_of : Record → Entry
entry_of r = record { number = r.number; fields = r.fields; key = r.key }

abbrev pub outcome_of : Result Record WrongAt → Outcome Entry
outcome_of (Ok r) = found (entry_of r) r.used
outcome_of (Err w) = wrong w.place

abbrev pub read_of : Result Record BadText → RecordRead
read_of (Ok r) = entry_read (entry_of r) r.used
read_of (Err b) =
    record {
      refusal = numbers.record_text_bad;
      line = b.line;
      column = b.column;
      used = 0;
      number = 0;
      fields = no_fields;
      key = no_key;
    }
