-- A text of records, gathered by number and not loaded: a record of any algorithm is taken (document 02, [11]). Assumes nothing: these are definitions.
use Rattle.std.specs.Prelude.{Bool, true, false, ◌&&◌, not, Option, Some, None, List, ℕ, zero, suc, eqb, length, drop}
use Rattle.laws.specs.Choice.{pick}
use Rattle.refusals.specs.Numbers.{done}
use Rattle.slots.specs.declared.Slot.{Slot}
use Rattle.slots.specs.Slots.{is_filled, empty_table, with_slot}
use Rattle.slot_calls.specs.Seen.{slot_as}
use Rattle.record_reader.specs.Record.{RecordRead, record_read}

-- each record in the slot of its number; or, where a record does not read or repeats a number, an empty table
pub record Gathered : Type 0 where
  pub good : Bool
  pub table : List Slot

-- each record stands in the slot of its number
abbrev pub gathered_to : List Slot → Gathered
gathered_to table = record { good = true; table = table }

-- a record does not read, or repeats a number
abbrev pub not_gathered : Gathered
not_gathered = record { good = false; table = empty_table }

-- as the code answers
abbrev pub gathered_of : Option (List Slot) → Gathered
gathered_of (Some table) = gathered_to table
gathered_of None = not_gathered

abbrev pub slot_read : RecordRead → Slot
slot_read read = record { fields = read.fields; key = read.key }

-- one record more
unfoldable pub entered : List Slot → RecordRead → Gathered
entered table read =
    pick (eqb read.refusal done && not (is_filled (slot_as table read.number)))
    (gathered_to (with_slot table read.number (slot_read read)))
    not_gathered

-- The records of s, one after the other, until the bytes end. The first argument only bounds how many there are.
unfoldable pub gather_within : ℕ → List Slot → List ℕ → Gathered
gather_within zero table s = gathered_to table
gather_within (suc k) table s =
    let read = record_read s in
    let next = entered table read in
    pick (eqb (length s) 0) (gathered_to table)
    (pick next.good (gather_within k next.table (drop read.used s))
    not_gathered)

unfoldable pub gather_on : List Slot → List ℕ → Gathered
gather_on table s = gather_within (length s) table s

-- a whole text
unfoldable pub gathered : List ℕ → Gathered
gathered text = gather_on empty_table text
