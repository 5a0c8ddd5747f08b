-- What an empty, a filled and a bad slot is, and the table of slots, numbered from 1 (document 01, "Slots and rights").
-- Assumes nothing: these are definitions.
use Rattle.std.specs.Prelude.{Bool, true, false, ◌&&◌, ◌||◌, not, List, [], ◌∷◌, ℕ, ◌-◌, eqb, get_or, set, replicate}
use Rattle.fields.specs.declared.Fields.{Fields}
use Rattle.fields.specs.Fields.{all_in_range, asked_of}
pub use Rattle.fields.specs.Fields.{no_fields}
use Rattle.slots.specs.declared.Slot.{Slot}

-- zero in every field
abbrev pub is_no_fields : Fields → Bool
is_no_fields f =
    (eqb f.version 0 && eqb f.mcc 0 && eqb f.mnc 0)
    && (eqb f.algorithm 0 && eqb f.usage 0 && eqb f.side 0 && eqb f.place 0)

-- zero in every byte
unfoldable pub all_zero : List ℕ → Bool
all_zero [] = true
all_zero (b ∷ l) = eqb b 0 && all_zero l

unfoldable pub is_empty : Slot → Bool
is_empty s = is_no_fields s.fields && all_zero s.key

unfoldable pub is_filled : Slot → Bool
is_filled s = all_in_range (asked_of s.fields)

-- anything else
unfoldable pub is_bad : Slot → Bool
is_bad s = not (is_filled s) && not (is_empty s)

unfoldable pub has_bad : List Slot → Bool
has_bad [] = false
has_bad (s ∷ table) = is_bad s || has_bad table

-- a slot that shows these fields, for a call that does not read its key
abbrev pub keyless : Fields → Slot
keyless f = record { fields = f; key = replicate 24 0 }

-- the slot that a call empties
abbrev pub empty : Slot
empty = keyless no_fields

abbrev pub empty_table : List Slot
empty_table = replicate 32 empty

-- what stands past the end of a list of slots: only ever a default
abbrev pub nil : Slot
nil = record { fields = no_fields; key = [] }

abbrev pub slot_at : List Slot → ℕ → Slot
slot_at table number = get_or table (number - 1) nil

abbrev pub with_slot : List Slot → ℕ → Slot → List Slot
with_slot table number s = set table (number - 1) s
