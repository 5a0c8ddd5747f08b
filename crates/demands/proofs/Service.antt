-- TEA6 is out of service (document 02, [9]): what is loaded and what is sent, of the calls for C over the definitions that their contracts cite,
-- on any list of slots; and what stayed as it was. Assumes nothing.
use mathlib.Core.Path.{◌≡◌, refl}
use mathlib.Core.Logic.{◌⊎◌, inl, inr, ⊎_elim}
use mathlib.Core.Bool.{Bool, true, false, not}
use mathlib.Core.List.{List}
use Prim.Native.Nat.{ℕ, ◌-◌}
use native.Mathlib.Omega.{arith}
use borrow.Author.Tests.{eqb-false}
use lib.Dec.{lit<}
use Rattle.laws.proofs.Cases.{and_left, neither, eq-or-ne, unpicked, unpicked-own}
use Rattle.refusals.specs.Numbers.{done, algorithm_out_of_service}
use Rattle.fields.specs.declared.Asked.{Asked}
use Rattle.fields.specs.Fields.{is_algorithm, out_of_service}
use Rattle.fields.proofs.Ranges.{between-low, between-high}
use Rattle.slots.specs.declared.Slot.{Slot}
use Rattle.slots.specs.Slots.{is_filled, slot_at}
use Rattle.rights.specs.Rights.{includes}
use Rattle.slot_calls.specs.Calls.{slot_refusal_of}
use Rattle.slots.proofs.Tables.{filled-else, good-at}
use Rattle.slot_calls.proofs.Passed.{load-passed-of}
use Rattle.slot_list.specs.List.{is_table, is_no_table}
use Rattle.card.specs.Table.{loaded_in, traffic_answer_in, whole_answer_in}
use Rattle.traffic.specs.Traffic.{sends_out_of_service, use_refusal_of}
use Rattle.traffic.proofs.Passed.{UsePassedOf, use-passed-of, traffic-passed-of}
use Rattle.whole.specs.declared.Pdu.{Pdu}
use Rattle.whole.proofs.Passed.{whole-passed}
use Rattle.demands.specs.Before.{use_refusal_before}

-- "No new TEA6 key is loaded"
pub load-serves : (t : List Slot) (number : ℕ) (a : Asked) (key : List ℕ) → (loaded_in t number a key).refusal ≡ done → out_of_service a.algorithm ≡ false
load-serves t number a key e = (load-passed-of (is_no_table t) (slot_at t number) number a e).serving

five-or-seven : (a : ℕ) → is_algorithm a ≡ true → out_of_service a ≡ false → (a ≡ 5) ⊎ (a ≡ 7)
five-or-seven a known serving =
    let low = between-low 5 a 7 known in
    let high = between-high 5 a 7 known in
    let not-6 = eqb-false a 6 serving in
    ⊎_elim inl (λ not-5. inr (⊎_elim (λ e. e) (λ not-7. absurd (not-6 (omega arith))) (eq-or-ne a 7))) (eq-or-ne a 5)

module _ (t : List Slot) (number : ℕ) (iv : List ℕ) where
  abbrev algorithm : ℕ
  algorithm = (slot_at t number).fields.algorithm

  sends-by : UsePassedOf (is_no_table t) (slot_at t number) 1 number iv → (algorithm ≡ 5) ⊎ (algorithm ≡ 7)
  unfolding is_filled
  sends-by passed =
      let sound = (neither (not (is_table t)) _ passed.good).1 in
      let filled = filled-else (slot_at t number) (good-at t (number - 1) sound) passed.slot.there in
      five-or-seven algorithm (and_left (is_algorithm algorithm) _ filled) passed.serving

  -- "Sending with it is refused": an accepted send, by either call, is one of TEA5 or TEA7

  pub traffic-sends-by : (buf : List ℕ) (start n skip : ℕ) → (traffic_answer_in t 1 number iv buf start n skip).refusal ≡ done → (algorithm ≡ 5) ⊎ (algorithm ≡ 7)
  traffic-sends-by buf start n skip e = sends-by (traffic-passed-of (is_no_table t) (slot_at t number) 1 number iv buf start n skip e).allowed

  pub pdu-sends-by : (buf : List ℕ) (u : Pdu) → (whole_answer_in t 1 number iv buf u).refusal ≡ done → (algorithm ≡ 5) ⊎ (algorithm ≡ 7)
  pdu-sends-by buf u e = sends-by (use-passed-of _ _ _ _ _ (whole-passed _ _ _ _ _ buf u e).room.allowed)

module _ (bad : Bool) (slot : Slot) (number : ℕ) (iv : List ℕ) where
  -- what is no send with an algorithm out of service answers as before
  as_before : (direction : ℕ) → sends_out_of_service direction slot.fields ≡ false → use_refusal_of bad slot direction number iv ≡ use_refusal_before bad slot direction number iv
  unfolding use_refusal_of use_refusal_before
  as_before direction e = rw e

  -- "A slot that holds one can still receive"
  pub receive-as-before : use_refusal_of bad slot 2 number iv ≡ use_refusal_before bad slot 2 number iv
  receive-as-before = as_before 2 refl

  pub serving-as-before : out_of_service slot.fields.algorithm ≡ false → use_refusal_of bad slot 1 number iv ≡ use_refusal_before bad slot 1 number iv
  serving-as-before e = as_before 1 e

  -- a send that was accepted before is refused with 21
  pub send-refused : out_of_service slot.fields.algorithm ≡ true → use_refusal_before bad slot 1 number iv ≡ done → use_refusal_of bad slot 1 number iv ≡ algorithm_out_of_service
  unfolding use_refusal_of use_refusal_before
  send-refused out e =
      let good = unpicked bad _ _ (lit< tt) e in
      let there = unpicked-own (slot_refusal_of slot number) _ good.1 in
      let included = unpicked (not (includes slot.fields.usage 1)) _ _ (lit< tt) there.1 in
      rw (good.0, there.0, included.0, out)
