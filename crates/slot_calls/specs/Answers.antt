-- What the calls answer, as these definitions speak of it: a refusal's number, 0 where nothing refuses, beside a slot, a table, or what is
-- shown; and the same of what the code returns. Assumes nothing: these are definitions.
use Rattle.std.specs.Prelude.{List, ℕ, Result, Ok, Err}
use Rattle.refusals.specs.declared.Refusal.{Refusal}
use Rattle.refusals.specs.Numbers.{done}
use Rattle.refusals.specs.Refused.{number}
use Rattle.fields.specs.declared.Fields.{Fields}
use Rattle.slots.specs.declared.Slot.{Slot}
use Rattle.slots.specs.Slots.{no_fields, empty}
use Rattle.slot_calls.specs.declared.Found.{Found}
use Rattle.slot_calls.specs.declared.Put.{Put}

-- the answer to a call that changes the table
pub record Changed : Type 0 where
  pub refusal : ℕ
  pub table : List Slot

-- the answer to a read
pub record Shown : Type 0 where
  pub refusal : ℕ
  pub number : ℕ
  pub fields : Fields

-- a refused call puts no slot
abbrev pub put_of : Result Slot Refusal → Put
put_of (Ok slot) = record { refusal = done; slot = slot }
put_of (Err refusal) = record { refusal = number refusal; slot = empty }

-- the table that was there stays where the call is refused
abbrev pub changed_of : List Slot → Result (List Slot) Refusal → Changed
changed_of before (Ok after) = record { refusal = done; table = after }
changed_of before (Err refusal) = record { refusal = number refusal; table = before }

-- a refused read shows nothing
abbrev pub shown_as_found : Result Found Refusal → Shown
shown_as_found (Ok found) = record { refusal = done; number = found.number; fields = found.fields }
shown_as_found (Err refusal) = record { refusal = number refusal; number = 0; fields = no_fields }
