-- Against cards whose slots do not hold what the trace says: each part of `Kept`, for the last slot as for the others, and the empty case of
-- `Holds`. The moves are wrong with keys for receiving alone, of which `sends` says nothing. And against one that is wrong with a key alone that was
-- there at the start: what `given` says of it. Assumes nothing.
use mathlib.Core.Bool.{true, false, true≢false}
use mathlib.Core.List.{[], ◌∷◌}
use mathlib.Core.Path.{◌≡◌, refl, sym, ap}
use Prim.Native.Nat.{ℕ}
use native.Mathlib.Omega.{arith}
use lib.Dec.{eqb}
use lib.ListN.{get_or}
use Rattle.laws.specs.Choice.{pick}
use Rattle.fields.specs.Fields.{out_of_service}
use Rattle.slots.specs.declared.Slot.{Slot}
use Rattle.slots.specs.Slots.{all_zero, is_empty, is_filled, is_bad, has_bad, empty, with_slot}
use Rattle.slot_calls.specs.Calls.{load_refusal_of, move_refusal_of, slot_refusal_of, clear_refusal_of, clear_refusal, answered, loaded, shown}
use Rattle.two_runs.specs.Calls.{load, move, clear, read, end, more, same, Starts}
use Rattle.two_runs.specs.Step.{reading}
use Rattle.two_runs.specs.Card.{Card, step}
use Rattle.two_runs.specs.Trace.{traced}
use Rattle.two_runs.specs.Run.{next, state_at}
use Rattle.two_runs.specs.Demand.{Kept, Demand3, Demand3FromEmpty}
use Rattle.two_runs.proofs.Start.{itself}
use Rattle.two_runs.proofs.AgainstStart.{tea6}
use Rattle.two_runs.proofs.Against.{loading, moving, clearing, asked, slot_of, made, key_of, none_chosen, for_both, at_place0}

-- a move that makes something else of a key for receiving

abbrev moving_received : (Slot → Slot) → Card
moving_received f = moving (λ s. pick (eqb s.fields.usage 2) (f s) s)

-- what it makes of it, in slot 32, would be what was loaded
would-keep : (f : Slot → Slot) → Demand3FromEmpty (moving_received f) → Kept (slot_of 2 (key_of 1)) (f (slot_of 2 (key_of 1)))
unfolding step next state_at traced load_refusal_of move_refusal_of has_bad is_bad is_filled is_empty all_zero
would-keep f demand = (demand none_chosen (load 1 (asked 2) (key_of 1) ∷ move 1 32 0 ∷ []) _ (more (same _) (more (same _) end))).traces 2 32 refl

abbrev pub widens_use : Card
widens_use = moving_received for_both

pub widens-use : Demand3FromEmpty widens_use → ⊥
widens-use demand = let e : false ≡ true = (would-keep for_both demand).usage in true≢false (sym e)

abbrev of_version0 : Slot → Slot
of_version0 s = made 0 s.fields.algorithm s.fields.usage s.fields.side s.fields.place s.fields.mcc s.fields.mnc s.key

abbrev pub loses_version : Card
loses_version = moving_received of_version0

pub loses-version : Demand3FromEmpty loses_version → ⊥
loses-version demand = let e : ◌≡◌ {A = ℕ} 0 7 = ap (λ (s : Slot). s.fields.version) (would-keep of_version0 demand).rest in omega arith

abbrev as_tea6 : Slot → Slot
as_tea6 s = made s.fields.version 6 s.fields.usage s.fields.side s.fields.place s.fields.mcc s.fields.mnc s.key

abbrev pub loses_algorithm : Card
loses_algorithm = moving_received as_tea6

pub loses-algorithm : Demand3FromEmpty loses_algorithm → ⊥
loses-algorithm demand = let e : ◌≡◌ {A = ℕ} 6 5 = ap (λ (s : Slot). s.fields.algorithm) (would-keep as_tea6 demand).rest in omega arith

abbrev on_side1 : Slot → Slot
on_side1 s = made s.fields.version s.fields.algorithm s.fields.usage 1 s.fields.place s.fields.mcc s.fields.mnc s.key

abbrev pub loses_side : Card
loses_side = moving_received on_side1

pub loses-side : Demand3FromEmpty loses_side → ⊥
loses-side demand = let e : ◌≡◌ {A = ℕ} 1 0 = ap (λ (s : Slot). s.fields.side) (would-keep on_side1 demand).rest in omega arith

abbrev pub loses_place : Card
loses_place = moving_received at_place0

pub loses-place : Demand3FromEmpty loses_place → ⊥
loses-place demand = let e : ◌≡◌ {A = ℕ} 0 28 = ap (λ (s : Slot). s.fields.place) (would-keep at_place0 demand).rest in omega arith

abbrev without_mcc : Slot → Slot
without_mcc s = made s.fields.version s.fields.algorithm s.fields.usage s.fields.side s.fields.place 0 s.fields.mnc s.key

abbrev pub loses_mcc : Card
loses_mcc = moving_received without_mcc

pub loses-mcc : Demand3FromEmpty loses_mcc → ⊥
loses-mcc demand = let e : ◌≡◌ {A = ℕ} 0 262 = ap (λ (s : Slot). s.fields.mcc) (would-keep without_mcc demand).rest in omega arith

abbrev without_mnc : Slot → Slot
without_mnc s = made s.fields.version s.fields.algorithm s.fields.usage s.fields.side s.fields.place s.fields.mcc 0 s.key

abbrev pub loses_mnc : Card
loses_mnc = moving_received without_mnc

pub loses-mnc : Demand3FromEmpty loses_mnc → ⊥
loses-mnc demand = let e : ◌≡◌ {A = ℕ} 0 1001 = ap (λ (s : Slot). s.fields.mnc) (would-keep without_mnc demand).rest in omega arith

abbrev of_zeros : Slot → Slot
of_zeros s = made s.fields.version s.fields.algorithm s.fields.usage s.fields.side s.fields.place s.fields.mcc s.fields.mnc (key_of 0)

abbrev pub loses_key : Card
loses_key = moving_received of_zeros

pub loses-key : Demand3FromEmpty loses_key → ⊥
loses-key demand = let e : ◌≡◌ {A = ℕ} 0 1 = ap (λ (s : Slot). get_or s.key 0 0) (would-keep of_zeros demand).rest in omega arith

-- a clear that leaves a key of its own
abbrev pub clears_to_key : Card
clears_to_key = clearing (λ table number. answered (clear_refusal table number) table (with_slot table number (slot_of 3 (key_of 2))))

pub clears-to-key : Demand3FromEmpty clears_to_key → ⊥
unfolding step next state_at traced load_refusal_of clear_refusal_of slot_refusal_of has_bad is_bad is_filled is_empty all_zero
clears-to-key demand =
    let e : false ≡ true = (demand none_chosen (load 1 (asked 1) (key_of 1) ∷ clear 1 ∷ []) _ (more (same _) (more (same _) end))).traces 2 1 refl in
    true≢false (sym e)

-- a read that empties its slot
abbrev pub reads_once : Card
reads_once =
    let ours = loading loaded in
    record { load = ours.load; move = ours.move; clear = ours.clear; read = λ table number. reading (with_slot table number empty) (shown table number); traffic = ours.traffic }

pub reads-once : Demand3FromEmpty reads_once → ⊥
unfolding step next state_at traced load_refusal_of clear_refusal_of slot_refusal_of has_bad is_bad is_filled is_empty all_zero
reads-once demand =
    let e : false ≡ true = ((demand none_chosen (load 1 (asked 1) (key_of 1) ∷ read 1 ∷ []) _ (more (same _) (more (same _) end))).traces 2 1 refl).usage in
    true≢false (sym e)

-- a move that makes a key for sending only one for both, where no load brings it: a key of TEA6 that was there
abbrev pub widens_tea6 : Card
widens_tea6 = moving (λ s. pick (out_of_service s.fields.algorithm) (for_both s) s)

one_key : Starts none_chosen (tea6 (key_of 1)) (tea6 (key_of 1))
unfolding has_bad is_bad is_filled is_empty all_zero
one_key = record { size = refl; sound = refl; twins = itself none_chosen (tea6 (key_of 1)) }

pub widens-tea6 : Demand3 widens_tea6 → ⊥
unfolding step next state_at traced move_refusal_of has_bad is_bad is_filled is_empty all_zero
widens-tea6 demand =
    let e : false ≡ true = ((demand none_chosen (tea6 (key_of 1)) (tea6 (key_of 1)) one_key (move 1 2 0 ∷ []) _ (more (same _) end)).traces 1 2 refl).usage in
    true≢false (sym e)
