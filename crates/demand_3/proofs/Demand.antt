-- Demand 3, for every list of calls, every choice of origins and every pair of keys: of any card that has the local facts, and so of ours. Assumes nothing.
use mathlib.Core.Bool.{Bool, true}
use mathlib.Core.List.{List}
use mathlib.Core.Logic.{◌⊎◌, inl, inr, ⊎_elim}
use mathlib.Core.Path.{◌≡◌, refl, sym, ap, ◌∙◌}
use Prim.Native.Nat.{ℕ, zero, suc, ◌+◌, ◌*◌, ◌<◌}
use native.Mathlib.Nat.{zero-add, add-zero, add-suc, suc-add}
use native.Mathlib.Omega.{arith}
use borrow.Author.Tests.{eqb-true}
use lib.ListN.{length}
use Rattle.laws.specs.Bits.{bit_at}
use Rattle.refusals.specs.Numbers.{done}
use Rattle.slots.specs.declared.Slot.{Slot}
use Rattle.slots.specs.Slots.{empty_table, slot_at}
use Rattle.rights.specs.Rights.{includes}
use Rattle.rights.proofs.Rights.{within-includes}
use Rattle.two_runs.specs.Calls.{Use, Work, Call, read, traffic, Origin, Twins, end, more, Starts}
use Rattle.two_runs.specs.Step.{Seen}
use Rattle.two_runs.specs.Card.{Card, step}
use Rattle.demand_3.specs.Ours.{our_card}
use Rattle.two_runs.specs.Run.{State, start_of, next, run, state_at, call_at, seen_in, seen_at, table_at, trace_at}
use Rattle.two_runs.specs.Demand.{Ciphers, Agree, given, IsSend, Kept, Meets, Demand3, Demand3FromEmpty}
use Rattle.demand_3.proofs.Local.{Local}
use Rattle.two_runs.proofs.Start.{empty-starts}
use Rattle.demand_3.proofs.Related.{Related, related-start, related-next}
use Rattle.demand_3.proofs.Agree.{same-agrees, twins-agree}
use Rattle.demand_3.proofs.Facts.{our-facts}

-- a slot that holds a send-only key, in a call that its use includes and whose initial value has its place and is on its side
is-send : (given slot : Slot) (how : Use) → includes slot.fields.usage how.direction ≡ true → slot.fields.place < 8 * length how.iv
    → (how.direction ≡ 1 → bit_at how.iv slot.fields.place ≡ slot.fields.side) → given.fields.usage ≡ 1 → Kept given slot → IsSend how given.fields
is-send given slot how included there on-side only k =
    let allowed : includes given.fields.usage how.direction ≡ true = within-includes slot.fields.usage given.fields.usage how.direction k.usage included in
    let send = sym (eqb-true 1 how.direction (rw only at allowed)) in
    let place = ap (λ (s : Slot). s.fields.place) k.rest in
    let side = ap (λ (s : Slot). s.fields.side) k.rest in
    record { send = send; there = rw place at there; side = ap (bit_at how.iv) (sym place) ∙ on-side send ∙ side }

module _ (card : Card) (facts : Local card) (chosen : Origin → Bool) (first : List Slot) (all : List Call) where
  -- one place of two runs; past the ends of the lists there is no call
  record Both (s t : State) (c : Call) (x y : Seen) : Type 0 where
    related : Related chosen first all s t
    agree : Agree chosen c s.trace x y
    seen : (x ≡ (step card s.table c).seen) ⊎ (c ≡ read 0)

  -- the calls cs stand in the list from this place on
  abbrev StandAt : ℕ → List Call → Type 0
  StandAt place cs = (k : ℕ) → call_at all (place + k) ≡ call_at cs k

  both_at : (s t : State) {cs ds : List Call} → StandAt s.place cs → Related chosen first all s t → Twins chosen s.place cs ds → (i : ℕ)
      → Both (state_at card s cs i) (state_at card t ds i) (call_at cs i) (seen_in (run card s cs) i) (seen_in (run card t ds) i)
  unfolding run state_at next
  both_at s t stand h end i = record { related = h; agree = same-agrees chosen _ _ _ _ refl; seen = inr refl }
  both_at s t stand h (more w r) zero = record { related = h; agree = twins-agree card facts chosen first all s t h w; seen = inl refl }
  both_at s t stand h (more {c = c} {d = d} w r) (suc i) =
      both_at (next card s c) (next card t d)
      (λ k. ap (call_at all) (suc-add s.place k ∙ sym (add-suc s.place k)) ∙ stand (suc k))
      (related-next chosen first all card facts s t h (ap (call_at all) (sym (add-zero s.place)) ∙ stand 0) w) r i

module _ (card : Card) (facts : Local card) (chosen : Origin → Bool) (a b : List Slot) (starts : Starts chosen a b) (cs ds : List Call) (twins : Twins chosen 0 cs ds) where
  both : (i : ℕ) → Both card facts chosen a cs (state_at card (start_of a) cs i) (state_at card (start_of b) ds i) (call_at cs i) (seen_at card a cs i) (seen_at card b ds i)
  both = both_at card facts chosen a cs (start_of a) (start_of b) (λ k. ap (call_at cs) (zero-add k)) (related-start chosen a cs b starts) twins

  -- a traffic call that was seen to be done was accepted on the table before it
  pub taken : (i : ℕ) (how : Use) (buf : List ℕ) (w : Work) → call_at cs i ≡ traffic how buf w → (seen_at card a cs i).refusal ≡ done → (card.traffic (table_at card a cs i) how buf w).seen.refusal ≡ done
  unfolding step
  taken i how buf w call done-seen =
      ⊎_elim
      (λ e. sym (ap (λ (x : Seen). x.refusal) e ∙ ap (λ (d : Call). (step card (table_at card a cs i) d).seen.refusal) call) ∙ done-seen)
      (λ past. let none : ◌≡◌ {A = ℕ} 0 1 = cc (past, call) in absurd (omega arith))
      (both i).seen

  sends-at : (i : ℕ) (c : Ciphers (call_at cs i) (trace_at card a cs i) (seen_at card a cs i)) → (given a cs c.origin).fields.usage ≡ 1 → IsSend c.how (given a cs c.origin).fields
  sends-at i c only =
      let e = taken i c.how c.buf c.work c.call c.accepted in
      let numbered = (facts.on-a-filled-slot _ c.how c.buf c.work e).numbered in
      is-send (given a cs c.origin) (slot_at (table_at card a cs i) c.how.number) c.how
      (facts.within-its-use _ c.how c.buf c.work e)
      (facts.has-its-place _ c.how c.buf c.work e)
      (facts.sends-on-its-side _ c.how c.buf c.work e)
      only (rw c.traced at ((both i).related.slots.at c.how.number numbered).holds)

  meets : Meets card chosen a b cs ds
  meets = record { agree = λ i. (both i).agree; sends = sends-at; traces = λ i number h. ((both i).related.slots.at number h).holds }

pub unwind : (card : Card) → Local card → Demand3 card
unwind = meets

-- the customer's sentence, from any table without a bad slot
pub demand-3 : Demand3 our_card
demand-3 = unwind our_card our-facts

-- from the empty table
pub demand-3-from-empty : Demand3FromEmpty our_card
demand-3-from-empty chosen = demand-3 chosen empty_table empty_table (empty-starts chosen)
