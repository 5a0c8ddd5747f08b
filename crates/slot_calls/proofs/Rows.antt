-- A table with one filled slot, for the values that document 01 holds a move to; and its values of a load, by computation. Assumes nothing.
use mathlib.Core.List.{List, ◌∷◌}
use mathlib.Core.Path.{◌≡◌, refl}
use Prim.Native.Nat.{ℕ}
use lib.ListN.{replicate}
use Rattle.fields.specs.declared.Asked.{Asked}
use Rattle.slots.specs.declared.Slot.{Slot}
use Rattle.slots.specs.Slots.{all_zero, is_empty, is_filled, is_bad, has_bad, empty}
use Rattle.slot_calls.specs.Calls.{load_refusal_of, load_refusal}

-- slot 1 is filled, with this use
abbrev pub one : ℕ → List Slot
one usage =
    record { fields = record { version = 0; algorithm = 5; usage = usage; side = 0; place = 0; mcc = 0; mnc = 0 }; key = replicate 24 1 } ∷ replicate 31 empty

-- the fields of a load, at this place
abbrev pub at_place : ℕ → Asked
at_place place = record { version = 0; algorithm = 5; usage = 1; side = 0; place = place; mcc = 0; mnc = 0 }

pub place-79 : load_refusal (one 1) 2 (at_place 79) ≡ 0
unfolding load_refusal_of has_bad is_bad is_filled is_empty all_zero
place-79 = refl

pub place-80 : load_refusal (one 1) 2 (at_place 80) ≡ 11
unfolding load_refusal_of has_bad is_bad is_filled is_empty all_zero
place-80 = refl
