-- The call for a whole PDU, by its refusal. Assumes nothing.
use mathlib.Core.Bool.{Bool}
use mathlib.Core.Path.{◌≡◌}
use mathlib.Core.List.{List}
use Prim.Native.Nat.{ℕ}
use borrow.Author.Tests.{eq-eqb, ne_eqb}
use lib.ListN.{length}
use Rattle.slots.specs.declared.Slot.{Slot}
use Rattle.plan.specs.Plan.{plan_refusal}
use Rattle.traffic.specs.Traffic.{slot_stream}
use Rattle.whole.specs.declared.Pdu.{Pdu}
use Rattle.whole.specs.Whole.{flag_of, open_refusal_of, whole_plan, whole_refusal_of, ciphered, wholed_of, plan_blocks, whole_blocks_of}

module _ (bad : Bool) (slot : Slot) (direction number : ℕ) (iv buf : List ℕ) (u : Pdu) where
  -- opened: the plan decides
  pub whole_open : open_refusal_of bad slot direction number iv (length buf) u.length ≡ 0
      → whole_refusal_of bad slot direction number iv buf u ≡ plan_refusal u.kind u.state (flag_of u buf) u.length u.address u.sdu
  unfolding whole_refusal_of
  whole_open e = rw (eq-eqb _ 0 e)

  -- accepted: every piece is ciphered

  pub whole-accepted : whole_refusal_of bad slot direction number iv buf u ≡ 0
      → wholed_of bad slot direction number iv buf u ≡ ciphered buf (slot_stream slot iv) (whole_plan buf u)
  unfolding wholed_of
  whole-accepted e = rw (eq-eqb _ 0 e)

  pub whole-blocks : whole_refusal_of bad slot direction number iv buf u ≡ 0 → whole_blocks_of bad slot direction number iv buf u ≡ plan_blocks (whole_plan buf u)
  unfolding whole_blocks_of
  whole-blocks e = rw (eq-eqb _ 0 e)

  -- refused: no bit changes, and no block is reported

  pub whole-refused : (whole_refusal_of bad slot direction number iv buf u ≡ 0 → ⊥) → wholed_of bad slot direction number iv buf u ≡ buf
  unfolding wholed_of
  whole-refused ne = rw (ne_eqb _ 0 ne)

  pub whole-no-blocks : (whole_refusal_of bad slot direction number iv buf u ≡ 0 → ⊥) → whole_blocks_of bad slot direction number iv buf u ≡ 0
  unfolding whole_blocks_of
  whole-no-blocks ne = rw (ne_eqb _ 0 ne)
