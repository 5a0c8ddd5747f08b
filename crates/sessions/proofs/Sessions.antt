-- A list of calls of the entries that C calls, each lent the records that the one before it left, is the run: the records are the run's table
-- after every call, and what C got is what the run saw. So demand 3 is about what C gets. Assumes nothing.
use mathlib.Core.Bool.{Bool}
use mathlib.Core.List.{List, [], ◌∷◌, map}
use mathlib.Core.Logic.{⊎_elim}
use mathlib.Core.Path.{◌≡◌, refl, ap, subst, ◌∙◌}
use Prim.Native.Nat.{ℕ, zero, suc, ◌-◌}
use lib.ListN.{length, length-set}
use base.Logic.{SProp, ent, emp, via}
use contract.Monad.{Fun, conj, conj_l, conj_r, fact, fact_i, fact_mono, fact_use}
use types.Logic.{Logic}
use seplogic.Ra.Ura.{Ura}
use prog.Memory.{Memory}
use prog.Routine.{Routine}
use Rattle.laws.proofs.Cases.{eq-or-ne}
use Rattle.refusals.specs.Numbers.{done}
use Rattle.slots.specs.declared.Slot.{Slot}
use Rattle.slots.specs.Slots.{empty, slot_at, with_slot}
use Rattle.two_runs.specs.Calls.{Call, load, move, clear, read, traffic, Origin, Twins, Starts}
use Rattle.two_runs.specs.Step.{Seen, Step}
use Rattle.two_runs.specs.Card.{step}
use Rattle.demand_3.specs.Ours.{our_card}
use Rattle.two_runs.specs.Run.{State, start_of, next, run as run_of, state_at, call_at, seen_in, trace_at}
use Rattle.two_runs.specs.Demand.{Agree}
use Rattle.sessions.proofs.Entries.{Entry, card-load, card-move, card-clear, card-read, card-traffic, card-pdu, before, called, left, promised, Steps, card-load-steps, card-move-steps, card-clear-steps, card-read-steps, card-traffic-steps, card-pdu-steps}
use Rattle.demand_3.proofs.Local.{loaded_slot, Leaves}
use Rattle.demand_3.proofs.Facts.{our-facts}
use Rattle.two_runs.proofs.Start.{twins-size}
use Rattle.demand_3.proofs.Demand.{demand-3}

-- the records after i calls; each call is lent the records that the one before it left

abbrev pub records_at : List Slot → List Entry → ℕ → List Slot
records_at t [] i = t
records_at t (x ∷ xs) zero = t
records_at t (x ∷ xs) (suc i) = records_at (left x).table xs i

abbrev pub Follow : List Slot → List Entry → Type 0
Follow t [] = Unit
Follow t (x ∷ xs) = (before x ≡ t) × Follow (left x).table xs

abbrev pub called_of : List Entry → List Call
called_of xs = map called xs

-- what C got, call by call
abbrev pub got_of : List Entry → List Seen
got_of xs = map (λ x. (left x).seen) xs

pub record IsRun (s : State) (xs : List Entry) : Type 0 where
  pub got : got_of xs ≡ run_of our_card s (called_of xs)
  pub records : (i : ℕ) → records_at s.table xs i ≡ (state_at our_card s (called_of xs) i).table
  pub whole : (i : ℕ) → length (records_at s.table xs i) ≡ 32

-- 32 records stay 32

left-size : {a b : List Slot} {Passed : Type 0} {x : Step} → Leaves a Passed b x → length b ≡ length a → length x.table ≡ length a
left-size {x = x} leaves e =
    ⊎_elim (λ accepted. ap length (leaves.accepted accepted) ∙ e) (λ refused. ap length (leaves.refused refused)) (eq-or-ne x.seen.refusal done)

step-size : (t : List Slot) (c : Call) → length t ≡ 32 → length (step our_card t c).table ≡ 32
unfolding step
step-size t (load number a key) whole = left-size (our-facts.load-leaves t number a key) (length-set t (number - 1) (loaded_slot a key)) ∙ whole
step-size t (move from to asked) whole =
    let new = slot_at (our_card.move t from to asked).table to in
    left-size (our-facts.move-leaves t from to asked whole) (length-set (with_slot t to new) (from - 1) empty ∙ length-set t (to - 1) new) ∙ whole
step-size t (clear number) whole = left-size (our-facts.clear-leaves t number) (length-set t (number - 1) empty) ∙ whole
step-size t (read number) whole = ap length (our-facts.read-leaves t number) ∙ whole
step-size t (traffic how buf w) whole = ap length (our-facts.traffic-leaves t how buf w) ∙ whole

-- one call more

module _ (s : State) (x : Entry) (xs : List Entry) (e : left x ≡ step our_card s.table (called x)) where
  abbrev later : State
  later = next our_card s (called x)

  after : (left x).table ≡ later.table
  unfolding next
  after = ap (λ (y : Step). y.table) e

  later-whole : length s.table ≡ 32 → length later.table ≡ 32
  unfolding next
  later-whole = step-size s.table (called x)

  module _ (r : IsRun later xs) (whole : length s.table ≡ 32) where
    records-more : (i : ℕ) → records_at s.table (x ∷ xs) i ≡ (state_at our_card s (called_of (x ∷ xs)) i).table
    unfolding state_at
    records-more zero = refl
    records-more (suc i) = ap (λ (t : List Slot). records_at t xs i) after ∙ r.records i

    whole-more : (i : ℕ) → length (records_at s.table (x ∷ xs) i) ≡ 32
    whole-more zero = whole
    whole-more (suc i) = ap (λ (t : List Slot). length (records_at t xs i)) after ∙ r.whole i

    run_more : IsRun s (x ∷ xs)
    unfolding run_of
    run_more = record { got = λ i. (e i).seen ∷ r.got i; records = records-more; whole = whole-more }

module _ {M : Type 1} {𝓤 : Ura M} (𝓛 : Logic 𝓤) (mem : Memory → SProp 𝓤) (run : Routine → Fun 𝓤) where
  -- what the contracts of the entries promise of these calls
  abbrev pub promises : List Entry → SProp 𝓤
  promises [] = emp 𝓤
  promises (x ∷ xs) = conj 𝓤 (promised 𝓛 mem run x) (promises xs)

  entry-steps : (x : Entry) → Steps 𝓛 mem run x
  entry-steps (card-load m) = card-load-steps 𝓛 mem run m
  entry-steps (card-move m) = card-move-steps 𝓛 mem run m
  entry-steps (card-clear m) = card-clear-steps 𝓛 mem run m
  entry-steps (card-read m) = card-read-steps 𝓛 mem run m
  entry-steps (card-traffic m) = card-traffic-steps 𝓛 mem run m
  entry-steps (card-pdu m) = card-pdu-steps 𝓛 mem run m

  run-from : (s : State) → length s.table ≡ 32 → (xs : List Entry) → Follow s.table xs → ent 𝓤 (promises xs) (fact 𝓤 (IsRun s xs))
  unfolding run_of state_at
  run-from s whole [] follow = fact_i 𝓤 _ _ (record { got = refl; records = λ i. refl; whole = λ i. whole })
  run-from s whole (x ∷ xs) follow =
      fact_use 𝓤 (left x ≡ step our_card (before x) (called x))
      (via 𝓤 (promised 𝓛 mem run x) (conj_l 𝓤 _ _) (entry-steps x (ap length follow.0 ∙ whole)))
      (λ e.
      let here : left x ≡ step our_card s.table (called x) = e ∙ ap (λ (t : List Slot). step our_card t (called x)) follow.0 in
      via 𝓤 (promises xs) (conj_r 𝓤 _ _)
      (via 𝓤 (fact 𝓤 (IsRun (later s x xs here) xs))
      (run-from (later s x xs here) (later-whole s x xs here whole) xs (subst (λ (t : List Slot). Follow t xs) (after s x xs here) follow.1))
      (fact_mono 𝓤 _ _ (λ r. run_more s x xs here r whole))))

  -- on any 32 records
  pub entries-run : (t : List Slot) → length t ≡ 32 → (xs : List Entry) → Follow t xs → ent 𝓤 (promises xs) (fact 𝓤 (IsRun (start_of t) xs))
  entries-run t = run-from (start_of t)

  -- what C gets in two such sessions, on records without a bad slot and by calls that are alike but for chosen keys, agrees as demand 3 says
  pub entries-agree : (chosen : Origin → Bool) (a b : List Slot) → Starts chosen a b → (xs ys : List Entry) → Follow a xs → Follow b ys
      → Twins chosen 0 (called_of xs) (called_of ys)
      → ent 𝓤 (conj 𝓤 (promises xs) (promises ys))
      (fact 𝓤 ((i : ℕ) → Agree chosen (call_at (called_of xs) i) (trace_at our_card a (called_of xs) i) (seen_in (got_of xs) i) (seen_in (got_of ys) i)))
  entries-agree chosen a b starts xs ys follow follow' twins =
      fact_use 𝓤 (IsRun (start_of a) xs) (via 𝓤 (promises xs) (conj_l 𝓤 _ _) (entries-run a starts.size xs follow))
      (λ first.
      fact_use 𝓤 (IsRun (start_of b) ys) (via 𝓤 (promises ys) (conj_r 𝓤 _ _) (entries-run b (twins-size chosen starts.twins ∙ starts.size) ys follow'))
      (λ second. fact_i 𝓤 _ _ (λ i. rw (first.got, second.got) ((demand-3 chosen a b starts (called_of xs) (called_of ys) twins).agree i))))
