-- Against loads whose answer looks at the key: `refusal`, and `other_key` for a load of each use. Assumes nothing.
use mathlib.Core.Bool.{◌&&◌, not}
use mathlib.Core.List.{List}
use mathlib.Core.Path.{◌≡◌, refl}
use Prim.Native.Nat.{ℕ}
use native.Mathlib.Omega.{arith}
use lib.Dec.{eqb}
use Rattle.refusals.specs.Numbers.{done, slot_empty, refuse}
use Rattle.fields.specs.declared.Asked.{Asked}
use Rattle.slots.specs.declared.Slot.{Slot}
use Rattle.slot_calls.specs.Answers.{Changed}
use Rattle.slots.specs.Slots.{all_zero, is_empty, is_filled, is_bad, has_bad, empty_table}
use Rattle.slot_calls.specs.Calls.{load_refusal_of, load_refusal, answered, loaded}
use Rattle.two_runs.specs.Calls.{TwinCalls, load, end, more, other_key}
use Rattle.two_runs.specs.Step.{told}
use Rattle.two_runs.specs.Card.{Card, step}
use Rattle.two_runs.specs.Trace.{at_start}
use Rattle.two_runs.specs.Run.{run, state_at}
use Rattle.two_runs.specs.Demand.{Agree, Demand3FromEmpty}
use Rattle.two_runs.proofs.Against.{loading, asked, key_of, all_chosen}

-- what a load of a key of zeros shows, and one of a key of ones, would agree
module _ (loads : List Slot → ℕ → Asked → List ℕ → Changed) (number : ℕ) (a : Asked) (twins : TwinCalls all_chosen 0 (load number a (key_of 0)) (load number a (key_of 1))) where
  would-agree : Demand3FromEmpty (loading loads) → Agree all_chosen (load number a (key_of 0)) (at_start empty_table) (told (loads empty_table number a (key_of 0)).refusal) (told (loads empty_table number a (key_of 1)).refusal)
  unfolding step run state_at
  would-agree demand = (demand all_chosen _ _ (more twins end)).agree 0

-- a load for this use that is refused all the same is answered with another number if its key is of zeros

abbrev says_zeros : ℕ → List Slot → ℕ → Asked → List ℕ → Changed
says_zeros usage table number a key =
    let r = load_refusal table number a in
    record { refusal = refuse (not (eqb r done) && (all_zero key && eqb a.usage usage)) slot_empty r; table = (loaded table number a key).table }

abbrev pub answers_by_key : ℕ → Card
answers_by_key usage = loading (says_zeros usage)

pub answers-by-key-to-send : Demand3FromEmpty (answers_by_key 1) → ⊥
unfolding load_refusal_of has_bad is_bad is_filled is_empty all_zero
answers-by-key-to-send demand = let e : ◌≡◌ {A = ℕ} 8 7 = (would-agree (says_zeros 1) 33 (asked 1) (other_key 33 (asked 1) _ _ refl) demand).refusal in omega arith

pub answers-by-key-to-receive : Demand3FromEmpty (answers_by_key 2) → ⊥
unfolding load_refusal_of has_bad is_bad is_filled is_empty all_zero
answers-by-key-to-receive demand = let e : ◌≡◌ {A = ℕ} 8 7 = (would-agree (says_zeros 2) 33 (asked 2) (other_key 33 (asked 2) _ _ refl) demand).refusal in omega arith

pub answers-by-key-for-both : Demand3FromEmpty (answers_by_key 3) → ⊥
unfolding load_refusal_of has_bad is_bad is_filled is_empty all_zero
answers-by-key-for-both demand = let e : ◌≡◌ {A = ℕ} 8 7 = (would-agree (says_zeros 3) 33 (asked 3) (other_key 33 (asked 3) _ _ refl) demand).refusal in omega arith

-- a key of zeros is refused

abbrev refuses_zeros : List Slot → ℕ → Asked → List ℕ → Changed
refuses_zeros table number a key = answered (refuse (all_zero key) slot_empty (load_refusal table number a)) table (loaded table number a key).table

abbrev pub looks_at_key : Card
looks_at_key = loading refuses_zeros

pub looks-at-key : Demand3FromEmpty looks_at_key → ⊥
unfolding load_refusal_of has_bad is_bad is_filled is_empty all_zero
looks-at-key demand = let e : ◌≡◌ {A = ℕ} 8 0 = (would-agree refuses_zeros 1 (asked 3) (other_key 1 (asked 3) _ _ refl) demand).refusal in omega arith
