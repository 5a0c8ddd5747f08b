-- What decides about a call for a whole PDU: what the table shows of the slot; and where there is a piece, its key. Assumes nothing.
use mathlib.Core.Bool.{Bool, true, false, not}
use mathlib.Core.List.{List}
use mathlib.Core.Path.{◌≡◌, refl, sym, ap, ◌∙◌}
use Prim.Native.Nat.{ℕ}
use borrow.Author.Tests.{eq-eqb}
use lib.Dec.{eqb}
use lib.ListN.{length}
use Rattle.laws.specs.Choice.{pick}
use Rattle.refusals.specs.Numbers.{done, refuse}
use Rattle.slots.specs.declared.Slot.{Slot}
use Rattle.slot_calls.specs.Calls.{slot_refusal_of}
use Rattle.slot_calls.proofs.Alike.{same-fields, same-empty}
use Rattle.slot_calls.proofs.AsSeen.{Same, unlooked}
use Rattle.plan.specs.declared.Plan.{Plan}
use Rattle.plan.specs.Plan.{plan_refusal, refused_plan}
use Rattle.plan.proofs.Sound.{plan-number, plan-sound}
use Rattle.traffic.specs.Traffic.{slot_stream, use_refusal_of}
use Rattle.traffic.proofs.Passed.{use-passed-of}
use Rattle.traffic.proofs.SeenTraffic.{judged-same}
use Rattle.whole.specs.declared.Pdu.{Pdu}
use Rattle.whole.specs.Whole.{flag_of, open_refusal_of, whole_plan, whole_refusal_of, has_no_piece, ciphered, plan_blocks, wholed_of, whole_blocks_of, whole_answer_of, judged_plan, pieces_after, whole_after, WholeMay}
use Rattle.whole.proofs.Passed.{whole-passed}
use Rattle.whole.proofs.Pieces.{pieces-fit, none-same}

module _ (bad : Bool) (s : Slot) (direction number : ℕ) (iv buf : List ℕ) (u : Pdu) where
  abbrev opened : ℕ
  opened = open_refusal_of bad s direction number iv (length buf) u.length

  -- the judged plan has the call's refusal
  pub judged-number : (judged_plan bad s direction number iv buf u).refusal ≡ whole_refusal_of bad s direction number iv buf u
  unfolding judged_plan whole_refusal_of
  judged-number = go (eqb opened done)
    where
      go : (b : Bool) → (pick b (whole_plan buf u) (refused_plan opened)).refusal
          ≡ refuse (not b) opened (plan_refusal u.kind u.state (flag_of u buf) u.length u.address u.sdu)
      go true = plan-number u.kind u.state (flag_of u buf) u.length u.address u.sdu
      go false = refl

  -- and where that is done, it is the PDU's plan
  module _ (e : (judged_plan bad s direction number iv buf u).refusal ≡ done) where
    accepted : whole_refusal_of bad s direction number iv buf u ≡ done
    accepted = sym judged-number ∙ e

    pub judged-plan : judged_plan bad s direction number iv buf u ≡ whole_plan buf u
    unfolding judged_plan
    judged-plan = rw (eq-eqb opened done (whole-passed bad s direction number iv buf u accepted).opened)

  -- so the work may be done
  pub whole-may : WholeMay (judged_plan bad s direction number iv buf u) iv buf
  whole-may e =
      let passed = whole-passed bad s direction number iv buf u (accepted e) in
      let f = flag_of u buf in
      let number = plan-number u.kind u.state f u.length u.address u.sdu in
      let sound = plan-sound u.kind u.state f u.length u.address u.sdu (number ∙ passed.planned) in
      let fit = pieces-fit buf u.length (whole_plan buf u).first (whole_plan buf u).second passed.room.inside sound in
      rw (judged-plan e) ((use-passed-of _ _ _ _ _ passed.room.allowed).iv-10, passed.room.small, fit.0, fit.1, fit.2)

module _ (bad : Bool) (number : ℕ) (s t : Slot) (same : Same bad number s t) (direction : ℕ) (iv buf : List ℕ) (u : Pdu) where
  pub refusal-seen : whole_refusal_of bad s direction number iv buf u ≡ whole_refusal_of bad t direction number iv buf u
  unfolding whole_refusal_of open_refusal_of use_refusal_of slot_refusal_of
  refusal-seen =
      unlooked bad number (λ x. whole_refusal_of bad x direction number iv buf u) s t (λ e. rw e) (λ e f. rw (e, f))
      (λ e. rw (same-empty s t e, same-fields s t e)) same

  abbrev p : Plan
  p = judged_plan bad s direction number iv buf u

  -- the call on the slot t, judged by s, with the key of x where there is a piece
  pub whole-seen : (x : Slot) → (p.refusal ≡ done → has_no_piece p ≡ false → x ≡ t) → whole_after p x iv buf ≡ whole_answer_of bad t direction number iv buf u
  unfolding wholed_of whole_blocks_of
  whole-seen x key =
      judged-same p.refusal _ _ buf _ _ (λ e. work e (has_no_piece p) refl ∙ ap (ciphered buf (slot_stream t iv)) (judged-plan bad s direction number iv buf u e))
      (λ e. ap plan_blocks (judged-plan bad s direction number iv buf u e))
      ∙ ap (λ (r : ℕ). pieces_after r (whole_plan buf u) t iv buf) (judged-number bad s direction number iv buf u ∙ refusal-seen)
    where
      work : p.refusal ≡ done → (b : Bool) → has_no_piece p ≡ b → ciphered buf (slot_stream x iv) p ≡ ciphered buf (slot_stream t iv) p
      work e true none = none-same p buf (slot_stream x iv) (slot_stream t iv) none
      work e false some = ap (λ (y : Slot). ciphered buf (slot_stream y iv) p) (key e some)
