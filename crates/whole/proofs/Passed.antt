-- What an accepted call for a whole PDU has passed. Assumes nothing.
use mathlib.Core.Bool.{Bool}
use mathlib.Core.List.{List}
use mathlib.Core.Path.{◌≡◌}
use Prim.Native.Nat.{ℕ, ◌*◌, ◌≤◌}
use borrow.Author.Tests.{eqb-true, ltb-false}
use lib.Dec.{ltb, lit<}
use lib.ListN.{length}
use Rattle.laws.proofs.Cases.{unpicked, unpicked-own}
use Rattle.slots.specs.declared.Slot.{Slot}
use Rattle.span.specs.Span.{longest_buffer}
use Rattle.plan.specs.Plan.{plan_refusal}
use Rattle.traffic.specs.Traffic.{use_refusal_of}
use Rattle.whole.specs.declared.Pdu.{Pdu}
use Rattle.whole.specs.Whole.{flag_of, room_refusal, open_refusal_of, whole_refusal_of}

module _ (bad : Bool) (slot : Slot) (direction number : ℕ) (iv : List ℕ) where
  -- before the plan
  pub record OpenPassed (size l : ℕ) : Type 0 where
    pub allowed : use_refusal_of bad slot direction number iv ≡ 0
    pub small : size ≤ longest_buffer
    pub inside : l ≤ 8 * size

  pub open-passed : (size l : ℕ) → open_refusal_of bad slot direction number iv size l ≡ 0 → OpenPassed size l
  unfolding open_refusal_of room_refusal
  open-passed size l e =
      let opened = unpicked-own (use_refusal_of bad slot direction number iv) _ e in
      let five = unpicked (ltb longest_buffer size) 5 _ (lit< tt) opened.1 in
      let six = unpicked (ltb (8 * size) l) 6 _ (lit< tt) five.1 in
      record {
        allowed = eqb-true (use_refusal_of bad slot direction number iv) 0 opened.0;
        small = ltb-false longest_buffer size five.0;
        inside = ltb-false (8 * size) l six.0;
      }

  pub record WholePassed (buf : List ℕ) (u : Pdu) : Type 0 where
    pub opened : open_refusal_of bad slot direction number iv (length buf) u.length ≡ 0
    pub room : OpenPassed (length buf) u.length
    pub planned : plan_refusal u.kind u.state (flag_of u buf) u.length u.address u.sdu ≡ 0

  pub whole-passed : (buf : List ℕ) (u : Pdu) → whole_refusal_of bad slot direction number iv buf u ≡ 0 → WholePassed buf u
  unfolding whole_refusal_of
  whole-passed buf u e =
      let both = unpicked-own (open_refusal_of bad slot direction number iv (length buf) u.length) _ e in
      let opened = eqb-true (open_refusal_of bad slot direction number iv (length buf) u.length) 0 both.0 in
      record { opened = opened; room = open-passed (length buf) u.length opened; planned = both.1 }
