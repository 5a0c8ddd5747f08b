-- What C gives and gets, in the document's numbers. Assumes nothing: these are definitions.
use Rattle.std.specs.Prelude.{List, [], ◌∷◌, ℕ}
use Rattle.fields.specs.declared.Asked.{Asked}
use Rattle.fields.specs.declared.Fields.{Fields}
use Rattle.record_reader.specs.Record.{RecordRead}
use Rattle.record_writer.specs.Written.{record_written, buffer_written}
use Rattle.plan.specs.declared.Plan.{Plan}
use Rattle.slots.specs.declared.Slot.{Slot}
use Rattle.slot_calls.specs.Answers.{Changed, Shown}
use Rattle.whole.specs.declared.Pdu.{Pdu}

-- the fields that a caller gives one by one
abbrev pub asking : ℕ → ℕ → ℕ → ℕ → ℕ → ℕ → ℕ → Asked
asking version algorithm usage side place mcc mnc =
    record { version = version; algorithm = algorithm; usage = usage; side = side; place = place; mcc = mcc; mnc = mnc }

-- the inputs of a plan, but for the flag, that a caller gives one by one
abbrev pub pdu_as : ℕ → ℕ → ℕ → ℕ → ℕ → Pdu
pdu_as kind state length address sdu = record { kind = kind; state = state; length = length; address = address; sdu = sdu }

-- number, version, algorithm, use, side, place, network
abbrev pub shown_numbers : ℕ → Fields → List ℕ
shown_numbers number f = number ∷ f.version ∷ f.algorithm ∷ f.usage ∷ f.side ∷ f.place ∷ f.mcc ∷ f.mnc ∷ []

-- start, length and skip of the first piece, and of the second
abbrev pub piece_numbers : Plan → List ℕ
piece_numbers p = p.first.start ∷ p.first.length ∷ p.first.skip ∷ p.second.start ∷ p.second.length ∷ p.second.skip ∷ []

-- Each answer as one record, part by part as its caller has it.

-- of reading a record: the refusal, number and fields, the key, the bytes that it took, line and column
pub record ReadOut : Type 0 where
  pub refusal : ℕ
  pub shown : List ℕ
  pub key : List ℕ
  pub used : ℕ
  pub line : ℕ
  pub column : ℕ

abbrev pub read_as : ℕ → List ℕ → List ℕ → ℕ → ℕ → ℕ → ReadOut
read_as refusal shown key used line column =
    record { refusal = refusal; shown = shown; key = key; used = used; line = line; column = column }

abbrev pub read_out : RecordRead → ReadOut
read_out r = read_as r.refusal (shown_numbers r.number r.fields) r.key r.used r.line r.column

-- of writing one: the refusal, the text's length and the buffer afterwards
pub record WrittenOut : Type 0 where
  pub refusal : ℕ
  pub length : ℕ
  pub buffer : List ℕ

abbrev pub written_as : ℕ → ℕ → List ℕ → WrittenOut
written_as refusal length buffer = record { refusal = refusal; length = length; buffer = buffer }

abbrev pub written_out : ℕ → Asked → List ℕ → List ℕ → WrittenOut
written_out number asked key buffer =
    let answer = record_written number asked key buffer in
    written_as answer.refusal answer.length (buffer_written number asked key buffer)

-- of a plan: the refusal and the pieces' numbers
pub record PlannedOut : Type 0 where
  pub refusal : ℕ
  pub pieces : List ℕ

abbrev pub planned_as : ℕ → List ℕ → PlannedOut
planned_as refusal pieces = record { refusal = refusal; pieces = pieces }

abbrev pub planned_out : Plan → PlannedOut
planned_out p = planned_as p.refusal (piece_numbers p)

-- of a call that changes the table: the refusal and the table afterwards
abbrev pub changed_as : ℕ → List Slot → Changed
changed_as refusal table = record { refusal = refusal; table = table }

-- of a read: the refusal, number and fields
abbrev pub shown_as : ℕ → ℕ → ℕ → ℕ → ℕ → ℕ → ℕ → ℕ → ℕ → Shown
shown_as refusal number version algorithm usage side place mcc mnc = record {
  refusal = refusal;
  number = number;
  fields = record { version = version; algorithm = algorithm; usage = usage; side = side; place = place; mcc = mcc; mnc = mnc };
}
