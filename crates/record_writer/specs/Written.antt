-- Writing a record (document 01, "Key records" and "Numbers an engineer sees"). What these answers come to is stated in the crate `records`.
-- Assumes nothing: these are definitions.
use Rattle.std.specs.Prelude.{List, not, ℕ, eqb, ltb, length, Result, Ok, Err}
use Rattle.laws.specs.Choice.{pick}
use Rattle.refusals.specs.Numbers as numbers
use Rattle.refusals.specs.Refused.{number}
use Rattle.refusals.specs.declared.Refusal.{Refusal}
use Rattle.fields.specs.Fields.{is_slot_number, is_algorithm, rights_refusal, stored_of}
use Rattle.fields.specs.declared.Asked.{Asked}
use Rattle.record_text.specs.Text.{record_text}
use Rattle.writing.specs.Writing.{at_front}

-- the order of writing: 7, 1, 10, 11, 20, 17
unfoldable pub write_refusal : ℕ → Asked → List ℕ → ℕ → ℕ
write_refusal number asked key room =
    numbers.refuse (not (is_slot_number number)) numbers.slot_number_bad
    (numbers.refuse (not (is_algorithm asked.algorithm)) numbers.algorithm_unknown
    (numbers.refuse (not (eqb (rights_refusal asked) numbers.done)) (rights_refusal asked)
    (numbers.refuse (ltb room (length (record_text number (stored_of asked) key))) numbers.record_too_long
    numbers.done)))

-- refusal and length of the text; a refusal has length 0
pub record RecordWritten : Type 0 where
  pub refusal : ℕ
  pub length : ℕ

-- the length or the refusal, as this record
abbrev pub record_written_as : Result ℕ Refusal → RecordWritten
record_written_as (Ok length) = record { refusal = numbers.done; length = length }
record_written_as (Err refusal) = record { refusal = number refusal; length = 0 }

-- what writing answers
unfoldable pub record_written : ℕ → Asked → List ℕ → List ℕ → RecordWritten
record_written number asked key buffer =
    let refusal = write_refusal number asked key (length buffer) in
    record {
      refusal = refusal;
      length = pick (eqb refusal numbers.done) (length (record_text number (stored_of asked) key)) 0;
    }

-- what the buffer holds after writing
unfoldable pub buffer_written : ℕ → Asked → List ℕ → List ℕ → List ℕ
buffer_written number asked key buffer =
    pick (eqb (write_refusal number asked key (length buffer)) numbers.done)
    (at_front (record_text number (stored_of asked) key) buffer)
    buffer
