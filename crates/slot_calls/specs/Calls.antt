-- What load, move, clear and read answer: the refusals in their order, and the table afterwards (document 01, "Slots and rights" and
-- "Numbers an engineer sees"). Each order stands once, over what a call sees of its table: whether it is bad, and the slots of its numbers.
-- Assumes nothing: these are definitions.
use Rattle.std.specs.Prelude.{Bool, ◌||◌, not, List, ℕ, eqb}
use Rattle.laws.specs.Choice.{pick}
use Rattle.refusals.specs.Numbers.{done, algorithm_unknown, algorithm_out_of_service, slot_number_bad, slot_empty, target_filled, code_unknown, use_not_within, table_bad, refuse}
use Rattle.fields.specs.declared.Asked.{Asked}
use Rattle.fields.specs.declared.Fields.{Fields}
use Rattle.fields.specs.Fields.{is_slot_number, is_algorithm, out_of_service, rights_refusal, stored_of}
use Rattle.slots.specs.declared.Slot.{Slot}
use Rattle.slot_calls.specs.Answers.{Changed, Shown}
use Rattle.slots.specs.Slots.{no_fields, is_empty, is_filled, has_bad, empty, slot_at, with_slot}
use Rattle.rights.specs.Rights.{is_asked_use, moved_use, may_move}

-- 16, 7, 1, 21, 10, 11, 20, 9
unfoldable pub load_refusal_of : Bool → Slot → ℕ → Asked → ℕ
load_refusal_of bad slot number a =
    refuse bad table_bad
    (refuse (not (is_slot_number number)) slot_number_bad
    (refuse (not (is_algorithm a.algorithm)) algorithm_unknown
    (refuse (out_of_service a.algorithm) algorithm_out_of_service
    (refuse (not (eqb (rights_refusal a) done)) (rights_refusal a)
    (refuse (is_filled slot) target_filled
    done)))))

-- 16, 7, 8, 9, 10, 14
unfoldable pub move_refusal_of : Bool → Slot → Slot → ℕ → ℕ → ℕ → ℕ
move_refusal_of bad slot target from to asked =
    refuse bad table_bad
    (refuse (not (is_slot_number from) || not (is_slot_number to)) slot_number_bad
    (refuse (is_empty slot) slot_empty
    (refuse (is_filled target) target_filled
    (refuse (not (is_asked_use asked)) code_unknown
    (refuse (not (may_move slot.fields.usage asked)) use_not_within
    done)))))

-- 7, 8: what every call on a filled slot asks of its number
unfoldable pub slot_refusal_of : Slot → ℕ → ℕ
slot_refusal_of slot number =
    refuse (not (is_slot_number number)) slot_number_bad
    (refuse (is_empty slot) slot_empty
    done)

-- 16, 7, 8: clear and read
unfoldable pub clear_refusal_of : Bool → Slot → ℕ → ℕ
clear_refusal_of bad slot number = refuse bad table_bad (slot_refusal_of slot number)

-- the same of a table

abbrev pub load_refusal : List Slot → ℕ → Asked → ℕ
load_refusal table number a = load_refusal_of (has_bad table) (slot_at table number) number a

abbrev pub move_refusal : List Slot → ℕ → ℕ → ℕ → ℕ
move_refusal table from to asked = move_refusal_of (has_bad table) (slot_at table from) (slot_at table to) from to asked

abbrev pub slot_refusal : List Slot → ℕ → ℕ
slot_refusal table number = slot_refusal_of (slot_at table number) number

abbrev pub clear_refusal : List Slot → ℕ → ℕ
clear_refusal table number = clear_refusal_of (has_bad table) (slot_at table number) number

-- The answers, first by whether the table counts as bad; a table by value is bad where it has a bad slot.

-- a refused call leaves the table as it is
abbrev pub answered : ℕ → List Slot → List Slot → Changed
answered refusal before after = record { refusal = refusal; table = pick (eqb refusal done) after before }

abbrev pub loaded_by : Bool → List Slot → ℕ → Asked → List ℕ → Changed
loaded_by bad table number a key =
    answered (load_refusal_of bad (slot_at table number) number a) table (with_slot table number (record { fields = stored_of a; key = key }))

abbrev pub loaded : List Slot → ℕ → Asked → List ℕ → Changed
loaded table number a key = loaded_by (has_bad table) table number a key

-- version, algorithm, side, place, network and key are carried
abbrev pub moved_fields : Fields → ℕ → Fields
moved_fields f asked = record {
  version = f.version;
  algorithm = f.algorithm;
  usage = moved_use f.usage asked;
  side = f.side;
  place = f.place;
  mcc = f.mcc;
  mnc = f.mnc;
}

abbrev pub moved_slot : Slot → ℕ → Slot
moved_slot s asked = record { fields = moved_fields s.fields asked; key = s.key }

abbrev pub moved_by : Bool → List Slot → ℕ → ℕ → ℕ → Changed
moved_by bad table from to asked =
    answered (move_refusal_of bad (slot_at table from) (slot_at table to) from to asked) table (with_slot (with_slot table to (moved_slot (slot_at table from) asked)) from empty)

abbrev pub moved : List Slot → ℕ → ℕ → ℕ → Changed
moved table from to asked = moved_by (has_bad table) table from to asked

abbrev pub cleared_by : Bool → List Slot → ℕ → Changed
cleared_by bad table number = answered (clear_refusal_of bad (slot_at table number) number) table (with_slot table number empty)

abbrev pub cleared : List Slot → ℕ → Changed
cleared table number = cleared_by (has_bad table) table number

-- the number and the fields, without the key
abbrev pub shown_of : Bool → Slot → ℕ → Shown
shown_of bad slot number =
    pick (eqb (clear_refusal_of bad slot number) done)
    (record { refusal = done; number = number; fields = slot.fields })
    (record { refusal = clear_refusal_of bad slot number; number = 0; fields = no_fields })

abbrev pub shown : List Slot → ℕ → Shown
shown table number = shown_of (has_bad table) (slot_at table number) number
