-- A lent list of slot records (document 01, "Slots and rights"): when it is a table, and how the code works on it where it lies. Assumes
-- nothing: these are definitions.
use Rattle.std.specs.Prelude.{Bool, ◌&&◌, ◌||◌, not, List, ℕ, ◌-◌, eqb, ltb, length, get_or, set}
use Rattle.laws.specs.Choice.{pick}
use Rattle.refusals.specs.Numbers.{done}
use Rattle.fields.specs.declared.Fields.{Fields}
use Rattle.fields.specs.Fields.{is_slot_number}
use Rattle.slots.specs.declared.Slot.{Slot}
use Rattle.slot_calls.specs.declared.Put.{Put}
use Rattle.slots.specs.Slots.{has_bad, empty, nil}

abbrev pub is_table : List Slot → Bool
is_table t = eqb (length t) 32

-- refusal 16: not 32 records, or a bad slot among them
abbrev pub is_no_table : List Slot → Bool
is_no_table t = not (is_table t) || has_bad t

-- It reads what the slot of a number shows, or the slot with its key, and stores one slot. Where there is none, nothing shows and the slot is empty.

-- past the end unless there are 32 records and the number is a slot's
abbrev pub place_of : ℕ → ℕ → ℕ
place_of count number = pick (eqb count 32 && is_slot_number number) (number - 1) count

abbrev pub slot_in : List Slot → ℕ → Slot
slot_in t number = pick (ltb (place_of (length t) number) (length t)) (get_or t (place_of (length t) number) nil) empty

abbrev pub fields_in : List Slot → ℕ → Fields
fields_in t number = (slot_in t number).fields

-- past the end after a refusal
abbrev pub place_to : ℕ → ℕ → Put → ℕ
place_to count number put = pick (eqb put.refusal done) (place_of count number) count

abbrev pub put_in : List Slot → ℕ → Put → List Slot
put_in t number put = pick (ltb (place_to (length t) number put) (length t)) (set t (place_to (length t) number put) put.slot) t
