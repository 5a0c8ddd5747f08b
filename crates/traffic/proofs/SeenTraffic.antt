-- What decides about traffic: what the table shows of the slot; and where the call is not refused, its key. Assumes nothing.
use mathlib.Core.Bool.{Bool, true, false}
use mathlib.Core.List.{List}
use mathlib.Core.Path.{◌≡◌, refl, ap, ◌∙◌}
use Prim.Native.Nat.{ℕ}
use borrow.Author.Tests.{eqb-true}
use lib.Dec.{eqb}
use Rattle.laws.specs.Choice.{pick}
use Rattle.refusals.specs.Numbers.{done}
use Rattle.slots.specs.declared.Slot.{Slot}
use Rattle.slot_calls.specs.Calls.{slot_refusal_of}
use Rattle.slot_calls.proofs.Alike.{same-fields, same-empty}
use Rattle.slot_calls.proofs.AsSeen.{Same, unlooked}
use Rattle.span.specs.Span.{xored}
use Rattle.ciphering.specs.Span.{ciphered_as}
use Rattle.traffic.specs.Traffic.{slot_stream, use_refusal_of, traffic_refusal_of, after_judging, traffic_after, trafficked_of, traffic_blocks_of, traffic_answer_of}

-- after a refusal the work has no say
pub judged-same : (refusal : ℕ) (worked other buf : List ℕ) (blocks count : ℕ) → (refusal ≡ done → worked ≡ other) → (refusal ≡ done → blocks ≡ count)
    → after_judging refusal worked buf blocks ≡ after_judging refusal other buf count
judged-same refusal worked other buf blocks count work made = go (eqb refusal done) refl
  where
    go : (u : Bool) → eqb refusal done ≡ u → ciphered_as refusal (pick u worked buf) (pick u blocks 0) ≡ ciphered_as refusal (pick u other buf) (pick u count 0)
    go true e = λ i. ciphered_as refusal (work (eqb-true refusal done e) i) (made (eqb-true refusal done e) i)
    go false e = refl

module _ (bad : Bool) (number : ℕ) (s t : Slot) (same : Same bad number s t) (direction : ℕ) (iv buf : List ℕ) (start n skip : ℕ) where
  pub refusal-seen : traffic_refusal_of bad s direction number iv buf start n skip ≡ traffic_refusal_of bad t direction number iv buf start n skip
  unfolding traffic_refusal_of use_refusal_of slot_refusal_of
  refusal-seen =
      unlooked bad number (λ x. traffic_refusal_of bad x direction number iv buf start n skip) s t (λ e. rw e) (λ e f. rw (e, f))
      (λ e. rw (same-empty s t e, same-fields s t e)) same

  -- the call on the slot t, judged by s, with the key of u where it is not refused
  pub traffic-seen : (u : Slot) → (traffic_refusal_of bad s direction number iv buf start n skip ≡ done → u ≡ t)
      → traffic_after (traffic_refusal_of bad s direction number iv buf start n skip) u iv buf start n skip
      ≡ traffic_answer_of bad t direction number iv buf start n skip
  unfolding trafficked_of traffic_blocks_of
  traffic-seen u key =
      judged-same (traffic_refusal_of bad s direction number iv buf start n skip) _ _ buf _ _ (λ e. ap (λ (x : Slot). xored buf (slot_stream x iv) start skip n) (key e)) (λ e. refl)
      ∙ ap (λ (r : ℕ). traffic_after r t iv buf start n skip) refusal-seen
