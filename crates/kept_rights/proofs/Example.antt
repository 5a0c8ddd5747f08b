-- An example: three records, of which one is narrowed and moved on, one takes its number, and one is cleared. Assumes nothing.
use mathlib.Core.List.{List, [], ◌∷◌, map}
use mathlib.Core.Path.{◌≡◌, refl}
use Prim.Native.Nat.{ℕ}
use lib.ListN.{replicate}
use Rattle.slots.specs.declared.Slot.{Slot}
use Rattle.slots.specs.Slots.{all_zero, is_empty, is_filled, is_bad, has_bad, empty}
use Rattle.slot_calls.specs.Calls.{move_refusal_of, slot_refusal_of, clear_refusal_of}
use Rattle.record_reader.specs.Record.{Entry}
use Rattle.two_runs.specs.Calls.{Call, move, clear}
use Rattle.two_runs.specs.Step.{Seen}
use Rattle.two_runs.specs.Card.{step}
use Rattle.demand_3.specs.Ours.{our_card}
use Rattle.two_runs.specs.Trace.{traced}
use Rattle.two_runs.specs.Run.{start_of, next, run, state_at, table_at, trace_at}
use Rattle.kept_rights.specs.Left.{entries_from, entries_of, pairs_left}

-- of an algorithm and a use, with a key of one byte 24 times
abbrev slot_with : ℕ → ℕ → ℕ → Slot
slot_with algorithm usage b =
    record { fields = record { version = 7; algorithm = algorithm; usage = usage; side = 0; place = 28; mcc = 262; mnc = 1001 }; key = replicate 24 b }

-- a key of TEA6 for both, one of TEA5 for receiving, one of TEA7 for sending
abbrev pub three : List Slot
three = slot_with 6 3 1 ∷ slot_with 5 2 2 ∷ slot_with 7 1 3 ∷ replicate 29 empty

-- the last of them asks for what was given away
abbrev pub calls : List Call
calls = move 1 5 1 ∷ move 2 1 0 ∷ clear 3 ∷ move 5 6 3 ∷ []

pub refusals : map (λ (x : Seen). x.refusal) (run our_card (start_of three) calls) ≡ 0 ∷ 0 ∷ 0 ∷ 14 ∷ []
unfolding run next step traced move_refusal_of slot_refusal_of clear_refusal_of has_bad is_bad is_filled is_empty all_zero
refusals = refl

abbrev left : List Entry
left = entries_of (table_at our_card three calls 4)

-- what was 2 is 1, with its use; what was 1 is 5, for sending
pub pairs : pairs_left (trace_at our_card three calls 4) left ≡ 2 ∷ 1 ∷ 1 ∷ 5 ∷ []
unfolding run next step state_at traced move_refusal_of slot_refusal_of clear_refusal_of has_bad is_bad is_filled is_empty all_zero entries_from pairs_left
pairs = refl

pub uses : map (λ (e : Entry). e.fields.usage) left ≡ 2 ∷ 1 ∷ []
unfolding run next step state_at traced move_refusal_of slot_refusal_of clear_refusal_of has_bad is_bad is_filled is_empty all_zero entries_from
uses = refl
