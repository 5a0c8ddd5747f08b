-- Where a key of an algorithm that is out of service comes from (document 02, [9]): after any calls from any table without a bad slot, from a slot
-- that held it at the start, and from no load. Assumes nothing.
use mathlib.Core.Bool.{Bool, true, false, true≢false, ◌&&◌, and-false}
use mathlib.Core.List.{List, [], ◌∷◌}
use mathlib.Core.Option.{Option, none, some}
use mathlib.Core.Path.{◌≡◌, refl, sym, ap, subst, ◌∙◌}
use Prim.Native.Nat.{ℕ, zero, suc, ◌+◌}
use native.Mathlib.Nat.{zero-add, add-zero, add-suc, suc-add}
use borrow.Author.Tests.{eqb-true}
use lib.Dec.{eqb}
use lib.ListN.{length}
use Rattle.laws.proofs.Cases.{pick-cases}
use Rattle.fields.specs.Fields.{is_slot_number, out_of_service}
use Rattle.slots.specs.declared.Slot.{Slot}
use Rattle.slots.specs.Slots.{is_empty, is_filled, has_bad, slot_at}
use Rattle.two_runs.specs.Calls.{Call, load, move, clear, read, traffic, Origin, load_at, present}
use Rattle.two_runs.specs.Card.{step}
use Rattle.demand_3.specs.Ours.{our_card}
use Rattle.two_runs.specs.Trace.{Trace, put, traced, at_start}
use Rattle.two_runs.specs.Run.{State, start_of, accepted, next, state_at, call_at, table_at, trace_at}
use Rattle.two_runs.specs.Demand.{slot_loaded, Holds}
use Rattle.demand_3.proofs.Facts.{our-facts}
use Rattle.sessions.proofs.Corollaries.{slot-holds, algorithm-never-changes}

-- an empty slot has no algorithm
empty-serves : (s : Slot) → is_empty s ≡ true → out_of_service s.fields.algorithm ≡ false
unfolding is_empty
empty-serves s e = go (out_of_service s.fields.algorithm) refl
  where
    go : (out : Bool) → out_of_service s.fields.algorithm ≡ out → out ≡ false
    go true h =
        let none : is_empty s ≡ false = rw (eqb-true s.fields.algorithm 6 h, and-false (eqb s.fields.version 0 && eqb s.fields.mcc 0 && eqb s.fields.mnc 0)) in
        absurd (true≢false (sym e ∙ none))
    go false h = refl

module _ (all : List Call) where
  -- a load that is an origin is one of an algorithm in service
  abbrev Serves : Option Origin → Type 0
  Serves none = Unit
  Serves (some (load_at place)) = out_of_service (slot_loaded (call_at all place)).fields.algorithm ≡ false
  Serves (some (present number)) = Unit

  abbrev AllServe : Trace → Type 0
  AllServe trace = (n : ℕ) → Serves (trace n)

  start-serves : (table : List Slot) → AllServe (at_start table)
  start-serves table n = pick-cases Serves (is_filled (slot_at table n)) {x = some (present n)} {y = none} (λ _. tt) (λ _. tt)

  put-serves : (number : ℕ) (origin : Option Origin) (trace : Trace) → Serves origin → AllServe trace → AllServe (put number origin trace)
  put-serves number origin trace here h n = pick-cases Serves (eqb n number) (λ _. here) (λ _. h n)

  taken-serves : (s : State) (c : Call) → call_at all s.place ≡ c → accepted our_card s c ≡ true → AllServe s.trace → AllServe (traced s.place c s.trace)
  unfolding traced step
  taken-serves s (load number a key) here e h =
      put-serves number (some (load_at s.place)) s.trace
      (subst (λ (c : Call). out_of_service (slot_loaded c).fields.algorithm ≡ false) (sym here)
      ((our-facts.load-leaves s.table number a key).passed (eqb-true _ _ e)).serving) h
  taken-serves s (move from to asked) here e h =
      put-serves from none (put to (s.trace from) s.trace) tt (put-serves to (s.trace from) s.trace (h from) h)
  taken-serves s (clear number) here e h = put-serves number none s.trace tt h
  taken-serves s (read number) here e h = h
  taken-serves s (traffic how buf w) here e h = h

  -- the calls cs stand in the list from the state's place on
  all-serve : (s : State) (cs : List Call) → ((k : ℕ) → call_at all (s.place + k) ≡ call_at cs k) → AllServe s.trace → (i : ℕ) → AllServe (state_at our_card s cs i).trace
  unfolding state_at next
  all-serve s [] stand h i = h
  all-serve s (c ∷ cs) stand h zero = h
  all-serve s (c ∷ cs) stand h (suc i) =
      all-serve (next our_card s c) cs
      (λ k. ap (call_at all) (suc-add s.place k ∙ sym (add-suc s.place k)) ∙ stand (suc k))
      (pick-cases AllServe (accepted our_card s c) (λ e. taken-serves s c (ap (call_at all) (sym (add-zero s.place)) ∙ stand 0) e h) (λ _. h)) i

module _ (table : List Slot) (size : length table ≡ 32) (sound : has_bad table ≡ false) (cs : List Call) (i number : ℕ) (numbered : is_slot_number number ≡ true) where
  abbrev here : Slot
  here = slot_at (table_at our_card table cs i) number

  -- the key traces back to a slot that held a key of it at the start
  pub out-was-there : out_of_service here.fields.algorithm ≡ true
      → (n : ℕ) × (trace_at our_card table cs i number ≡ some (present n)) × (out_of_service (slot_at table n).fields.algorithm ≡ true)
  out-was-there out =
      go (trace_at our_card table cs i number) refl (slot-holds table size sound cs i number numbered)
      (all-serve cs (start_of table) cs (λ k. ap (call_at cs) (zero-add k)) (start-serves cs table) i number)
    where
      go : (origin : Option Origin) → trace_at our_card table cs i number ≡ origin → Holds table cs origin here → Serves cs origin
          → (n : ℕ) × (origin ≡ some (present n)) × (out_of_service (slot_at table n).fields.algorithm ≡ true)
      go none e holds serves = absurd (true≢false (sym out ∙ empty-serves here holds))
      go (some (load_at place)) e holds serves =
          absurd (true≢false (sym out ∙ ap out_of_service (algorithm-never-changes table size sound cs i number (load_at place) numbered e) ∙ serves))
      go (some (present n)) e holds serves =
          (n, refl, sym (ap out_of_service (algorithm-never-changes table size sound cs i number (present n) numbered e)) ∙ out)

  -- where no slot held one at the start, none ever does
  pub none_out : ((n : ℕ) → out_of_service (slot_at table n).fields.algorithm ≡ false) → out_of_service here.fields.algorithm ≡ false
  none_out before = go (out_of_service here.fields.algorithm) refl
    where
      go : (out : Bool) → out_of_service here.fields.algorithm ≡ out → out ≡ false
      go true out = let was = out-was-there out in absurd (true≢false (sym was.2 ∙ before was.0))
      go false out = refl
