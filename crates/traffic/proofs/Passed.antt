-- What accepted traffic has passed. Assumes nothing.
use mathlib.Core.Bool.{Bool, true, false, not}
use mathlib.Core.Path.{◌≡◌}
use mathlib.Core.List.{List}
use Prim.Native.Nat.{ℕ}
use borrow.Author.Tests.{eqb-true, not-false}
use lib.Dec.{eqb, lit<}
use lib.ListN.{length}
use Rattle.laws.proofs.Cases.{unpicked, unpicked-own}
use Rattle.slots.specs.declared.Slot.{Slot}
use Rattle.slots.specs.Slots.{has_bad, slot_at}
use Rattle.rights.specs.Rights.{is_direction, includes}
use Rattle.slot_calls.specs.Calls.{slot_refusal_of}
use Rattle.slot_calls.proofs.Passed.{SlotPassedOf, slot-passed-of}
use Rattle.traffic.specs.Traffic.{on_side, sends_out_of_service, use_refusal_of, traffic_refusal_of, TrafficMay, traffic_refusal}
use Rattle.ciphering.proofs.Passed.{SpanPassed, span-passed}

-- a slot's key may be used in this direction with this initial value
pub record UsePassedOf (bad : Bool) (s : Slot) (direction number : ℕ) (iv : List ℕ) : Type 0 where
  pub good : bad ≡ false
  pub known : is_direction direction ≡ true
  pub slot : SlotPassedOf s number
  pub included : includes s.fields.usage direction ≡ true
  pub serving : sends_out_of_service direction s.fields ≡ false
  pub iv-10 : length iv ≡ 10
  pub on-side : on_side direction s.fields iv ≡ true

pub use-passed-of : (bad : Bool) (s : Slot) (direction number : ℕ) (iv : List ℕ) → use_refusal_of bad s direction number iv ≡ 0 → UsePassedOf bad s direction number iv
unfolding use_refusal_of
use-passed-of bad s direction number iv e =
    let good = unpicked bad 16 _ (lit< tt) e in
    let known = unpicked (not (is_direction direction)) 10 _ (lit< tt) good.1 in
    let slot = unpicked-own (slot_refusal_of s number) _ known.1 in
    let included = unpicked (not (includes s.fields.usage direction)) 12 _ (lit< tt) slot.1 in
    let serving = unpicked (sends_out_of_service direction s.fields) 21 _ (lit< tt) included.1 in
    let ten = unpicked (not (eqb (length iv) 10)) 3 _ (lit< tt) serving.1 in
    let side = unpicked (not (on_side direction s.fields iv)) 13 _ (lit< tt) ten.1 in
    record {
      good = good.0;
      known = not-false (is_direction direction) known.0;
      slot = slot-passed-of s number (eqb-true (slot_refusal_of s number) 0 slot.0);
      included = not-false (includes s.fields.usage direction) included.0;
      serving = serving.0;
      iv-10 = eqb-true (length iv) 10 (not-false (eqb (length iv) 10) ten.0);
      on-side = not-false (on_side direction s.fields iv) side.0;
    }

pub record TrafficPassedOf (bad : Bool) (s : Slot) (direction number : ℕ) (iv buf : List ℕ) (start n skip : ℕ) : Type 0 where
  pub allowed : UsePassedOf bad s direction number iv
  pub span : SpanPassed (length buf) start n skip

pub traffic-passed-of : (bad : Bool) (s : Slot) (direction number : ℕ) (iv buf : List ℕ) (start n skip : ℕ)
    → traffic_refusal_of bad s direction number iv buf start n skip ≡ 0 → TrafficPassedOf bad s direction number iv buf start n skip
unfolding traffic_refusal_of
traffic-passed-of bad s direction number iv buf start n skip e =
    let opened = unpicked-own (use_refusal_of bad s direction number iv) _ e in
    record {
      allowed = use-passed-of bad s direction number iv (eqb-true (use_refusal_of bad s direction number iv) 0 opened.0);
      span = span-passed (length buf) start n skip opened.1;
    }

-- so the work may be done
pub traffic-may : (bad : Bool) (s : Slot) (direction number : ℕ) (iv buf : List ℕ) (start n skip : ℕ)
    → TrafficMay (traffic_refusal_of bad s direction number iv buf start n skip) iv buf start n skip
unfolding traffic_refusal_of
traffic-may bad s direction number iv buf start n skip e =
    ((traffic-passed-of bad s direction number iv buf start n skip e).allowed.iv-10, (unpicked-own (use_refusal_of bad s direction number iv) _ e).1)

-- the same of a table

abbrev pub TrafficPassed : List Slot → ℕ → ℕ → List ℕ → List ℕ → ℕ → ℕ → ℕ → Type 0
TrafficPassed table direction number iv buf start n skip = TrafficPassedOf (has_bad table) (slot_at table number) direction number iv buf start n skip

pub traffic-passed : (table : List Slot) (direction number : ℕ) (iv buf : List ℕ) (start n skip : ℕ)
    → traffic_refusal table direction number iv buf start n skip ≡ 0 → TrafficPassed table direction number iv buf start n skip
traffic-passed table direction number iv buf start n skip e = traffic-passed-of (has_bad table) (slot_at table number) direction number iv buf start n skip e
