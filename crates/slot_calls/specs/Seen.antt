-- What a call makes of the one slot that it changes, by what it saw of its table; proofs/Puts.antt takes this to the answers of `Calls`.
-- Assumes nothing: these are definitions.
use Rattle.std.specs.Prelude.{Bool, List, ℕ, eqb}
use Rattle.laws.specs.Choice.{pick}
use Rattle.refusals.specs.Numbers.{done}
use Rattle.fields.specs.declared.Asked.{Asked}
use Rattle.fields.specs.Fields.{is_slot_number, stored_of}
use Rattle.slots.specs.declared.Slot.{Slot}
use Rattle.slot_calls.specs.declared.Put.{Put}
use Rattle.slot_calls.specs.Answers.{Changed}
use Rattle.slots.specs.Slots.{empty, slot_at, with_slot}
use Rattle.slot_calls.specs.Calls.{load_refusal_of, clear_refusal_of, moved_slot}

-- a call with a number that is none is refused whatever the slot is
abbrev pub slot_as : List Slot → ℕ → Slot
slot_as table number = pick (is_slot_number number) (slot_at table number) empty

-- the number of the slot whose key a call reads: one that is no slot's, unless it needs a key
abbrev pub key_slot : Bool → ℕ → ℕ
key_slot needed number = pick needed number 0

-- after a refusal the slot is not looked at
abbrev pub put_by : ℕ → Slot → Put
put_by refusal slot = record { refusal = refusal; slot = pick (eqb refusal done) slot empty }

-- the table afterwards: the slot is in its place, and a refusal changes nothing
abbrev pub put_to : List Slot → ℕ → Put → List Slot
put_to table number put = pick (eqb put.refusal done) (with_slot table number put.slot) table

abbrev pub changed_by : List Slot → ℕ → Put → Changed
changed_by table number put = record { refusal = put.refusal; table = put_to table number put }

abbrev pub load_put : Bool → Slot → ℕ → Asked → List ℕ → Put
load_put bad slot number a key = put_by (load_refusal_of bad slot number a) (record { fields = stored_of a; key = key })

-- what the target becomes
abbrev pub move_put : ℕ → Slot → ℕ → Put
move_put refusal slot asked = put_by refusal (moved_slot slot asked)

-- the same answer, for a slot that is emptied
abbrev pub emptied_by : Put → Put
emptied_by put = record { refusal = put.refusal; slot = empty }

abbrev pub clear_put : Bool → Slot → ℕ → Put
clear_put bad slot number = record { refusal = clear_refusal_of bad slot number; slot = empty }
