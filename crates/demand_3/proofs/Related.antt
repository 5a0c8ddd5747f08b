-- Two runs of twin lists, side by side, on any card that has the local facts: the tables show the same, a slot holds what its origin gave,
-- and a slot that holds two keys traces back to a chosen origin. Assumes nothing.
use mathlib.Core.Bool.{Bool, true, false, true≢false}
use mathlib.Core.List.{List}
use mathlib.Core.Logic.{◌⊎◌, inl, inr, ⊎_elim}
use mathlib.Core.Option.{Option, none, some}
use mathlib.Core.Path.{◌≡◌, refl, sym, ap, subst, ◌∙◌}
use Prim.Native.Nat.{ℕ, ◌+◌, ◌-◌}
use native.Mathlib.Omega.{arith}
use borrow.Author.Tests.{eqb-true, eqb-false}
use lib.Dec.{eqb}
use lib.ListN.{length, length-set}
use Rattle.laws.specs.Choice.{pick}
use Rattle.laws.proofs.Cases.{and_left, and_right}
use Rattle.refusals.specs.Numbers.{done}
use Rattle.fields.specs.declared.Asked.{Asked}
use Rattle.fields.specs.Fields.{is_slot_number, is_algorithm, is_use}
use Rattle.fields.proofs.Ranges.{between-low}
use Rattle.slots.specs.declared.Slot.{Slot}
use Rattle.slots.specs.Slots.{all_zero, is_empty, is_filled, empty, slot_at, with_slot}
use Rattle.rights.specs.Rights.{within}
use Rattle.rights.proofs.Rights.{within_same, within-trans}
use Rattle.slots.proofs.Tables.{good-at}
use Rattle.slot_calls.proofs.Left.{slot-stored, slot-other}
use Rattle.slot_calls.proofs.Alike.{Alike}
use Rattle.two_runs.specs.Calls.{Call, load, move, clear, read, traffic, Origin, load_at, present, TwinCalls, same, other_key, TwinSlots, same-slot, other-present, Starts}
use Rattle.two_runs.specs.Step.{Seen, Step}
use Rattle.two_runs.specs.Card.{Card, step}
use Rattle.two_runs.specs.Trace.{Trace, put, traced}
use Rattle.two_runs.specs.Run.{State, start_of, accepted, next, call_at}
use Rattle.two_runs.specs.Demand.{slot_loaded, given, with_use, Kept, Holds}
use Rattle.demand_3.proofs.Local.{loaded_slot, AlikeSteps, Leaves, Local}
use Rattle.two_runs.proofs.Start.{empty-else, alike-twins, twins-size, twins-at, unfilled-key}

-- the origin is a chosen one
pub record Chosen (chosen : Origin → Bool) (origin : Option Origin) : Type 0 where
  pub first : Origin
  pub traced : origin ≡ some first
  pub picked : chosen first ≡ true

-- what was given, where it was given, and in the slot that a move carries it to

kept-itself : (s : Slot) → is_filled s ≡ true → Kept s s
unfolding is_filled
kept-itself s filled =
    let use-known = and_left (is_use s.fields.usage) _ (and_right (is_algorithm s.fields.algorithm) _ filled) in
    record { usage = within_same s.fields.usage use-known; rest = refl }

kept-moved : (given : Slot) {x y : Slot} → within y.fields.usage x.fields.usage ≡ true → y ≡ with_use x y.fields.usage → Kept given x → Kept given y
kept-moved given {x} {y} narrow rest k = record {
  usage = within-trans y.fields.usage x.fields.usage given.fields.usage narrow k.usage;
  rest = rest ∙ ap (λ (s : Slot). with_use s y.fields.usage) k.rest;
}

empty-empty : is_empty empty ≡ true
unfolding is_empty all_zero
empty-empty = refl

module _ (chosen : Origin → Bool) (first : List Slot) (all : List Call) where
  -- one slot in the two runs: the first holds what its origin says, and the second has its key, unless the origin is a chosen one
  pub record Pair (origin : Option Origin) (x y : Slot) : Type 0 where
    pub holds : Holds first all origin x
    pub key : (x.key ≡ y.key) ⊎ Chosen chosen origin

  -- what a move makes of two slots
  record Moved (x y v w : Slot) : Type 0 where
    narrow : within v.fields.usage x.fields.usage ≡ true
    rest : v ≡ with_use x v.fields.usage
    rest' : w ≡ with_use y w.fields.usage

  pair-moved : (origin : Option Origin) {x y v w : Slot} → is_empty x ≡ false → Moved x y v w → Pair origin x y → Pair origin v w
  pair-moved none filled m p = absurd (true≢false (sym p.holds ∙ filled))
  pair-moved (some origin) {x} {y} {v} {w} filled m p = record {
    holds = kept-moved (given first all origin) m.narrow m.rest p.holds;
    key = ⊎_elim (λ e. inl (ap (λ (s : Slot). s.key) m.rest ∙ e ∙ sym (ap (λ (s : Slot). s.key) m.rest'))) inr p.key;
  }

  pair-empty : Pair none empty empty
  pair-empty = record { holds = empty-empty; key = inl refl }

  -- two tables of 32 slots, slot by slot
  pub record Pairs (trace : Trace) (a b : List Slot) : Type 0 where
    pub size : length a ≡ 32
    pub size' : length b ≡ 32
    pub at : (n : ℕ) → is_slot_number n ≡ true → Pair (trace n) (slot_at a n) (slot_at b n)

  pairs-put : {trace : Trace} {a b : List Slot} {origin : Option Origin} {x y : Slot} (number : ℕ) → is_slot_number number ≡ true
      → Pairs trace a b → Pair origin x y → Pairs (put number origin trace) (with_slot a number x) (with_slot b number y)
  pairs-put {trace} {a} {b} {origin} {x} {y} number h pairs p = record {
    size = length-set a (number - 1) x ∙ pairs.size;
    size' = length-set b (number - 1) y ∙ pairs.size';
    at = λ n l. go n l (eqb n number) refl;
  }
    where
      go : (n : ℕ) → is_slot_number n ≡ true → (t : Bool) → eqb n number ≡ t
          → Pair (pick t origin (trace n)) (slot_at (with_slot a number x) n) (slot_at (with_slot b number y) n)
      go n l true e = rw (eqb-true n number e, slot-stored a number h x pairs.size, slot-stored b number h y pairs.size') p
      go n l false e =
          rw (slot-other a number h x n l (eqb-false n number e), slot-other b number h y n l (eqb-false n number e)) (pairs.at n l)

  -- a call that leaves the tables and the trace as they are
  pairs-same : {trace : Trace} {a b : List Slot} (accepted : Bool) → Pairs trace a b → Pairs (pick accepted trace trace) a b
  pairs-same true pairs = pairs
  pairs-same false pairs = pairs

  pub record Related (s t : State) : Type 0 where
    pub alike : Alike s.table t.table
    pub slots : Pairs s.trace s.table t.table

  pub related-start : (second : List Slot) → Starts chosen first second → Related (start_of first) (start_of second)
  related-start second starts = record {
    alike = alike-twins chosen starts.twins;
    slots = record { size = starts.size; size' = twins-size chosen starts.twins ∙ starts.size; at = at };
  }
    where
      keys : {n : ℕ} {x y : Slot} → TwinSlots chosen n x y → (x.key ≡ y.key) ⊎ Chosen chosen (some (present n))
      keys (same-slot s) = inl refl
      keys {n} (other-present f key other filled picked) = inr (record { first = present n; traced = refl; picked = picked })

      go : (n : ℕ) → TwinSlots chosen n (slot_at first n) (slot_at second n) → (t : Bool) → is_filled (slot_at first n) ≡ t
          → Pair (pick t (some (present n)) none) (slot_at first n) (slot_at second n)
      go n twins true e = record { holds = kept-itself (slot_at first n) e; key = keys twins }
      go n twins false e = record {
        holds = empty-else (slot_at first n) (good-at first (n - 1) starts.sound) e;
        key = inl (unfilled-key chosen twins e);
      }

      at : (n : ℕ) → is_slot_number n ≡ true → Pair ((start_of first).trace n) (slot_at first n) (slot_at second n)
      at n h =
          let numbered : 1 + (n - 1) ≡ n = omega (arith, between-low 1 n 32 h) in
          go n (subst (λ (m : ℕ). TwinSlots chosen m (slot_at first n) (slot_at second n)) numbered (twins-at chosen starts.twins (n - 1))) (is_filled (slot_at first n)) refl

  module _ (card : Card) (facts : Local card) (s t : State) (h : Related s t) where
    -- a call that both tables refuse, or both take
    related-left : {A B : Type 0} {place later : ℕ} {after behind : Trace} {c d : List Slot} {x y : Step} → AlikeSteps x y → Leaves s.table A c x → Leaves t.table B d y
        → (x.seen.refusal ≡ done → y.seen.refusal ≡ done → A → Pairs after c d)
        → Related (record { place = place; table = x.table; trace = pick (eqb x.seen.refusal done) after s.trace }) (record { place = later; table = y.table; trace = behind })
    related-left {after = after} {x = x} {y = y} alike p q taken = record { alike = alike.table; slots = go (eqb x.seen.refusal done) refl }
      where
        same-refusal : x.seen.refusal ≡ y.seen.refusal
        same-refusal = ap (λ (v : Seen). v.refusal) alike.seen

        go : (t : Bool) → eqb x.seen.refusal done ≡ t → Pairs (pick t after s.trace) x.table y.table
        go true u =
            let e = eqb-true x.seen.refusal done u in
            let f = sym same-refusal ∙ e in
            rw (p.accepted e, q.accepted f) (taken e f (p.passed e))
        go false u = let ne = eqb-false x.seen.refusal done u in rw (p.refused ne, q.refused (λ e. ne (same-refusal ∙ e))) h.slots

    -- a call that leaves both tables
    related-kept : {place later : ℕ} {behind : Trace} {a b : List Slot} (accepted : Bool) → a ≡ s.table → b ≡ t.table
        → Related (record { place = place; table = a; trace = pick accepted s.trace s.trace }) (record { place = later; table = b; trace = behind })
    related-kept accepted e f = rw (e, f) (record { alike = h.alike; slots = pairs-same accepted h.slots })

    related-load : (number : ℕ) (a : Asked) (key other : List ℕ) → call_at all s.place ≡ load number a key → (key ≡ other) ⊎ Chosen chosen (some (load_at s.place))
        → Related (next card s (load number a key)) (next card t (load number a other))
    unfolding next step traced is_filled
    related-load number a key other here keys =
        related-left
        (facts.load-blind s.table t.table number a key other h.alike)
        (facts.load-leaves s.table number a key)
        (facts.load-leaves t.table number a other)
        (λ e f passed.
        let held = subst (λ (c : Call). Kept (slot_loaded c) (loaded_slot a key)) (sym here) (kept-itself (loaded_slot a key) passed.ranges) in
        pairs-put number passed.numbered h.slots (record { holds = held; key = keys }))

    related_same : (c : Call) → call_at all s.place ≡ c → Related (next card s c) (next card t c)
    unfolding next step traced
    related_same (load number a key) here = related-load number a key key here (inl refl)
    related_same (move from to asked) here =
        related-left
        (facts.move-blind s.table t.table from to asked h.alike)
        (facts.move-leaves s.table from to asked h.slots.size)
        (facts.move-leaves t.table from to asked h.slots.size')
        (λ e f passed.
        let arrived =
        pair-moved (s.trace from) passed.there
        (record {
          narrow = facts.move-keeps-use s.table from to asked h.slots.size e;
          rest = facts.move-keeps-rest s.table from to asked h.slots.size e;
          rest' = facts.move-keeps-rest t.table from to asked h.slots.size' f;
        })
        (h.slots.at from passed.from-numbered) in
        pairs-put from passed.from-numbered (pairs-put to passed.to-numbered h.slots arrived) pair-empty)
    related_same (clear number) here =
        related-left
        (facts.clear-blind s.table t.table number h.alike)
        (facts.clear-leaves s.table number)
        (facts.clear-leaves t.table number)
        (λ e f passed. pairs-put number passed.slot.numbered h.slots pair-empty)
    related_same (read number) here =
        related-kept (accepted card s (read number)) (facts.read-leaves s.table number) (facts.read-leaves t.table number)
    related_same (traffic how buf w) here =
        related-kept (accepted card s (traffic how buf w)) (facts.traffic-leaves s.table how buf w) (facts.traffic-leaves t.table how buf w)

    pub related-next : {c d : Call} → call_at all s.place ≡ c → TwinCalls chosen s.place c d → Related (next card s c) (next card t d)
    related-next here (same c) = related_same c here
    related-next here (other_key number a key other picked) =
        related-load number a key other here (inr (record { first = load_at s.place; traced = refl; picked = picked }))
