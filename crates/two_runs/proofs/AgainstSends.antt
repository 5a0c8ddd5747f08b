-- Against cards that let a key for sending only do something else: `send`, `there`, `side`. Assumes nothing.
use mathlib.Core.List.{List, [], ◌∷◌, ◌++◌}
use mathlib.Core.Path.{◌≡◌, refl, ap, ◌∙◌}
use Prim.Native.Nat.{ℕ, ◌-◌, ◌*◌, ◌<◌}
use native.Mathlib.Omega.{arith}
use lib.Dec.{eqb}
use lib.ListN.{length, replicate}
use Rattle.laws.specs.Bits.{bit_of, bit_at}
use Rattle.refusals.specs.Numbers.{done, iv_side_wrong, refuse}
use Rattle.fields.specs.Fields.{stored_of}
use Rattle.slots.specs.Slots.{all_zero, is_empty, is_filled, is_bad, has_bad, empty, empty_table, with_slot}
use Rattle.slots.specs.declared.Slot.{Slot}
use Rattle.slot_calls.specs.Calls.{load_refusal_of, move_refusal_of, slot_refusal_of}
use Rattle.ciphering.specs.Span.{span_refusal}
use Rattle.traffic.specs.Traffic.{use_refusal_of, traffic_refusal_of, traffic_refusal}
use Rattle.two_runs.specs.Calls.{span, Call, load, move, traffic, load_at, end, more, same}
use Rattle.two_runs.specs.Card.{Card, OfTraffic, step}
use Rattle.two_runs.specs.Trace.{traced}
use Rattle.two_runs.specs.Run.{State, next, run, state_at}
use Rattle.two_runs.specs.Demand.{IsSend, Demand3FromEmpty}
use Rattle.two_runs.proofs.Against.{moving, refusing, asked, slot_of, key_of, zeros, iv28, used, byte, none_chosen, for_both, at_place0}
use Rattle.two_runs.proofs.AgainstRuns.{holding, loads, next-is, sent}

-- a key for sending only is loaded and used: if that is accepted, it would be a send

module _ (refusal : OfTraffic ℕ) (direction : ℕ) (iv : List ℕ) where
  abbrev call : Call
  call = traffic (used direction 1 iv) byte (span 0 1 0)

  would-send : refusal (holding (key_of 1)) direction 1 iv byte 0 1 0 ≡ done → Demand3FromEmpty (refusing refusal) → IsSend (used direction 1 iv) (stored_of (asked 1))
  unfolding step run state_at
  would-send accepted demand =
      let loaded = next-is (refusing refusal) loads (key_of 1) in
      (demand none_chosen (load 1 (asked 1) (key_of 1) ∷ call ∷ []) _ (more (same _) (more (same _) end))).sends 1
      (record {
        how = used direction 1 iv;
        buf = byte;
        work = span 0 1 0;
        origin = load_at 0;
        call = refl;
        accepted = ap (λ (s : State). (step (refusing refusal) s.table call).seen.refusal) loaded ∙ accepted;
        traced = ap (λ (s : State). s.trace 1) loaded;
      })
      refl

-- every call is tested as a send

abbrev as_send : OfTraffic ℕ
as_send table direction = traffic_refusal table 1

abbrev pub takes_for_send : Card
takes_for_send = refusing as_send

pub takes-for-send : Demand3FromEmpty takes_for_send → ⊥
unfolding span_refusal
takes-for-send demand = let e : ◌≡◌ {A = ℕ} 2 1 = (would-send as_send 2 zeros (sent (key_of 1) 0 1 0 refl) demand).send in omega arith

-- where the initial value is on the wrong side, the later tests alone decide

abbrev ignoring : OfTraffic ℕ
ignoring table direction number iv buf start n skip =
    let r = traffic_refusal table direction number iv buf start n skip in
    refuse (eqb r iv_side_wrong) (span_refusal (length buf) start n skip) r

abbrev pub ignores_side : Card
ignores_side = refusing ignoring

pub ignores-side : Demand3FromEmpty ignores_side → ⊥
unfolding holding span_refusal use_refusal_of traffic_refusal_of slot_refusal_of has_bad is_bad is_filled is_empty all_zero bit_at bit_of
ignores-side demand = let e : ◌≡◌ {A = ℕ} 1 0 = (would-send ignoring 1 iv28 refl demand).side in omega arith

-- a short initial value is tested as if zeros stood behind it: one of no byte, which has no bit 28

abbrev padding : OfTraffic ℕ
padding table direction number iv = traffic_refusal table direction number (iv ++ replicate (10 - length iv) 0)

abbrev pub pads_short : Card
pads_short = refusing padding

pub pads-short : Demand3FromEmpty pads_short → ⊥
unfolding span_refusal
pads-short demand = let e : 28 < 8 * length {A = ℕ} [] = (would-send padding 1 [] (sent (key_of 1) 0 1 0 refl) demand).there in omega arith

-- a move that forgets use, or place: the key for sending only is moved to slot 2 and used there

module _ (f : Slot → Slot) (direction : ℕ) where
  would-send-moved : traffic_refusal (with_slot (with_slot (with_slot empty_table 1 (slot_of 1 (key_of 1))) 2 (f (slot_of 1 (key_of 1)))) 1 empty) direction 2 iv28 byte 0 1 0 ≡ done
      → Demand3FromEmpty (moving f) → IsSend (used direction 2 iv28) (stored_of (asked 1))
  unfolding step run next state_at traced load_refusal_of move_refusal_of has_bad is_bad is_filled is_empty all_zero
  would-send-moved accepted demand =
      (demand none_chosen (load 1 (asked 1) (key_of 1) ∷ move 1 2 0 ∷ traffic (used direction 2 iv28) byte (span 0 1 0) ∷ []) _ (more (same _) (more (same _) (more (same _) end)))).sends 2
      (record { how = used direction 2 iv28; buf = byte; work = span 0 1 0; origin = load_at 0; call = refl; accepted = accepted; traced = refl })
      refl

abbrev pub forgets_use : Card
forgets_use = moving for_both

pub forgets-use : Demand3FromEmpty forgets_use → ⊥
unfolding span_refusal use_refusal_of traffic_refusal_of slot_refusal_of has_bad is_bad is_filled is_empty all_zero bit_at bit_of
forgets-use demand = let e : ◌≡◌ {A = ℕ} 2 1 = (would-send-moved for_both 2 refl demand).send in omega arith

abbrev pub forgets_place : Card
forgets_place = moving at_place0

pub forgets-place : Demand3FromEmpty forgets_place → ⊥
unfolding span_refusal use_refusal_of traffic_refusal_of slot_refusal_of has_bad is_bad is_filled is_empty all_zero bit_at bit_of
forgets-place demand = let e : ◌≡◌ {A = ℕ} 1 0 = (would-send-moved at_place0 1 refl demand).side in omega arith
