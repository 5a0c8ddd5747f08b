-- What is seen of twin calls in two related states agrees, but for bits that may differ: on any card that has the local facts. Assumes nothing.
use mathlib.Core.Bool.{Bool, true, false}
use mathlib.Core.List.{List}
use mathlib.Core.Logic.{◌⊎◌, inl, inr, ⊎_elim}
use mathlib.Core.Path.{◌≡◌, refl, sym, ap, ◌∙◌}
use Prim.Native.Nat.{ℕ}
use lib.ListN.{length}
use Rattle.laws.specs.Bits.{bit_at}
use Rattle.laws.proofs.Cases.{eq-or-ne}
use Rattle.refusals.specs.Numbers.{done}
use Rattle.slots.specs.declared.Slot.{Slot}
use Rattle.two_runs.specs.Calls.{Use, Work, span_of, Call, load, move, clear, read, traffic, Origin, TwinCalls, same, other_key}
use Rattle.two_runs.specs.Step.{Seen}
use Rattle.two_runs.specs.Card.{Card, step}
use Rattle.two_runs.specs.Trace.{Trace}
use Rattle.two_runs.specs.Run.{State}
use Rattle.two_runs.specs.Demand.{MayDiffer, Agree}
use Rattle.demand_3.proofs.Local.{Local}
use Rattle.demand_3.proofs.Related.{Chosen, Related}

-- what is the same agrees
pub same-agrees : (chosen : Origin → Bool) (c : Call) (trace : Trace) (x y : Seen) → x ≡ y → Agree chosen c trace x y
same-agrees chosen c trace x y e = record {
  refusal = ap (λ (v : Seen). v.refusal) e;
  blocks = ap (λ (v : Seen). v.blocks) e;
  number = ap (λ (v : Seen). v.number) e;
  fields = ap (λ (v : Seen). v.fields) e;
  size = ap (λ (v : Seen). length v.buffer) e;
  bits = λ j. inl (ap (λ (v : Seen). bit_at v.buffer j) e);
}

module _ (card : Card) (facts : Local card) (chosen : Origin → Bool) (first : List Slot) (all : List Call) (s t : State) (h : Related chosen first all s t) where
  module _ (how : Use) (buf : List ℕ) (w : Work) where
    abbrev call : Call
    call = traffic how buf w

    abbrev seen_on : List Slot → Seen
    seen_on table = (card.traffic table how buf w).seen

    same-refusal : (seen_on s.table).refusal ≡ (seen_on t.table).refusal
    same-refusal = facts.refusal-blind s.table t.table h.alike how buf w

    differs : (j : ℕ) → (seen_on s.table).refusal ≡ done → span_of w buf j ≡ true → Chosen chosen (s.trace how.number) → MayDiffer chosen call s.trace (seen_on s.table) j
    differs j e inside origin = record {
      ciphers = record { how = how; buf = buf; work = w; origin = origin.first; call = refl; accepted = e; traced = origin.traced };
      inside = inside;
      picked = origin.picked;
    }

    abbrev Bit : ℕ → Type 0
    Bit j = (bit_at (seen_on s.table).buffer j ≡ bit_at (seen_on t.table).buffer j) ⊎ MayDiffer chosen call s.trace (seen_on s.table) j

    -- a call that was accepted, on a slot of two keys
    two-keys : (j : ℕ) → (seen_on s.table).refusal ≡ done → Chosen chosen (s.trace how.number) → (t : Bool) → span_of w buf j ≡ t → Bit j
    two-keys j e origin true inside = inr (differs j e inside origin)
    two-keys j e origin false beside =
        inl (facts.beside-stays s.table how buf w j beside ∙ sym (facts.beside-stays t.table how buf w j beside))

    bits-agree : (j : ℕ) → Bit j
    bits-agree j =
        ⊎_elim
        (λ e.
        ⊎_elim
        (λ key. inl (ap (λ (l : List ℕ). bit_at l j) (facts.own-key-alone s.table t.table h.alike how buf w key)))
        (λ origin. two-keys j e origin (span_of w buf j) refl)
        (h.slots.at how.number (facts.on-a-filled-slot s.table how buf w e).numbered).key)
        (λ ne.
        let left = facts.refused-stays s.table how buf w ne in
        let right = facts.refused-stays t.table how buf w (λ e. ne (same-refusal ∙ e)) in
        inl (ap (λ (l : List ℕ). bit_at l j) (left ∙ sym right)))
        (eq-or-ne (seen_on s.table).refusal done)

    traffic-agree : Agree chosen call s.trace (seen_on s.table) (seen_on t.table)
    traffic-agree = record {
      refusal = same-refusal;
      blocks = facts.blocks-blind s.table t.table h.alike how buf w;
      number = facts.number-blind s.table t.table h.alike how buf w;
      fields = facts.fields-blind s.table t.table h.alike how buf w;
      size = facts.size-stays s.table how buf w ∙ sym (facts.size-stays t.table how buf w);
      bits = bits-agree;
    }

  same-agree : (c : Call) → Agree chosen c s.trace (step card s.table c).seen (step card t.table c).seen
  unfolding step
  same-agree (load number a key) = same-agrees _ _ _ _ _ (facts.load-blind s.table t.table number a key key h.alike).seen
  same-agree (move from to asked) = same-agrees _ _ _ _ _ (facts.move-blind s.table t.table from to asked h.alike).seen
  same-agree (clear number) = same-agrees _ _ _ _ _ (facts.clear-blind s.table t.table number h.alike).seen
  same-agree (read number) = same-agrees _ _ _ _ _ (facts.read-blind s.table t.table number h.alike)
  same-agree (traffic how buf w) = traffic-agree how buf w

  pub twins-agree : {c d : Call} → TwinCalls chosen s.place c d → Agree chosen c s.trace (step card s.table c).seen (step card t.table d).seen
  unfolding step
  twins-agree (same c) = same-agree c
  twins-agree (other_key number a key other picked) = same-agrees _ _ _ _ _ (facts.load-blind s.table t.table number a key other h.alike).seen
