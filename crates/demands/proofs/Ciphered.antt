-- Demand 2, of the calls for C over the definitions that their contracts cite: inside the span each bit is itself xor its keystream bit, bits
-- beside the span never move, and the same call again brings the buffer back; the bench call gives the keystream itself. That a record read
-- and written again is the same text is `read-then-written` (crates/records/proofs/Promises.antt). Assumes nothing.
use mathlib.Core.Path.{◌≡◌, refl, sym, ap, subst, ◌∙◌}
use mathlib.Core.Bool.{Bool, false, not}
use mathlib.Core.List.{List}
use Prim.Native.Nat.{ℕ, ◌+◌, ◌<◌, ◌≤◌}
use native.Mathlib.Nat.{zero-add}
use native.Mathlib.Omega.{arith}
use lib.Bits.{bit_xor}
use lib.Dec.{eqb}
use lib.ListN.{length, get_or}
use borrow.Author.Tests.{eq-eqb}
use Rattle.laws.specs.Bits.{bit_at}
use Rattle.laws.proofs.Cases.{pick-cases, neither}
use Rattle.refusals.specs.Numbers.{done}
use Rattle.span.specs.Span.{xored}
use Rattle.span.proofs.Within.{Beside}
use Rattle.span.proofs.Laws.{xored-inside, xored-outside, written-inside, written-outside}
use Rattle.span.proofs.Stream.{stream-lt}
use Rattle.keystream.specs.Stream.{keystream}
use Rattle.slots.specs.declared.Slot.{Slot}
use Rattle.slots.specs.Slots.{has_bad, slot_at}
use Rattle.bench.specs.Bench.{bench_refusal, benched}
use Rattle.slot_list.specs.List.{is_table, is_no_table}
use Rattle.card.specs.Table.{traffic_answer_in, whole_answer_in}
use Rattle.whole.specs.declared.Pdu.{Pdu}
use Rattle.whole.specs.Whole.{whole_plan}
use Rattle.whole.proofs.Laws.{whole-outside, whole-beyond, whole_twice}
use Rattle.traffic.specs.Traffic.{slot_stream, traffic_refusal_of, trafficked_of}
use Rattle.traffic.proofs.Laws.{traffic-accepted, traffic-twice}
use Rattle.bench.proofs.Passed.{keyed-passed}
use Rattle.traffic.proofs.Passed.{traffic-passed-of}

module _ (t : List Slot) (direction number : ℕ) (iv buf : List ℕ) (start n skip : ℕ) where
  -- an accepted call has a table, so that what is known of a table by value is known of the lent one
  on-table : (P : Bool → Type 0) → (traffic_answer_in t direction number iv buf start n skip).refusal ≡ done → P (has_bad t) → P (is_no_table t)
  on-table P e p =
      let good = (traffic-passed-of (is_no_table t) (slot_at t number) direction number iv buf start n skip e).allowed.good in
      subst P ((neither (not (is_table t)) (has_bad t) good).1 ∙ sym good) p

  -- "ciphered bits equal ETSI TS 104 053-2 bit by bit": bit start + i of the buffer
  pub traffic-inside : (traffic_answer_in t direction number iv buf start n skip).refusal ≡ done → (i : ℕ) → i < n
      → bit_at ((traffic_answer_in t direction number iv buf start n skip).buffer) (start + i)
      ≡ bit_xor (bit_at buf (start + i)) (keystream (slot_at t number).fields.algorithm (slot_at t number).key iv (skip + i))
  traffic-inside e i h =
      let k = slot_stream (slot_at t number) iv in
      let inside = (traffic-passed-of (is_no_table t) (slot_at t number) direction number iv buf start n skip e).span.inside in
      ap (λ (l : List ℕ). bit_at l (start + i))
      (on-table (λ b. traffic_refusal_of b (slot_at t number) direction number iv buf start n skip ≡ done
      → trafficked_of b (slot_at t number) direction number iv buf start n skip ≡ xored buf k start skip n) e
      (traffic-accepted t direction number iv buf start n skip) e)
      ∙ xored-inside k (stream-lt _) buf start skip n i h (omega arith)

  -- "bits beside it never move": whatever the call answers
  pub traffic-beside : (j : ℕ) → Beside start n j → bit_at ((traffic_answer_in t direction number iv buf start n skip).buffer) j ≡ bit_at buf j
  unfolding trafficked_of
  traffic-beside j beside =
      pick-cases (λ (l : List ℕ). bit_at l j ≡ bit_at buf j) (eqb ((traffic_answer_in t direction number iv buf start n skip).refusal) done)
      (λ _. xored-outside (slot_stream (slot_at t number) iv) (stream-lt _) buf start skip n j beside)
      (λ _. refl)

  -- "the same span ciphered again, with all else alike, comes back"
  pub traffic-again : ((q : ℕ) → get_or buf q 0 < 256) → (traffic_answer_in t direction number iv buf start n skip).refusal ≡ done
      → (traffic_answer_in t direction number iv ((traffic_answer_in t direction number iv buf start n skip).buffer) start n skip).buffer ≡ buf
  traffic-again bytes e =
      on-table (λ b. traffic_refusal_of b (slot_at t number) direction number iv buf start n skip ≡ done
      → trafficked_of b (slot_at t number) direction number iv (trafficked_of b (slot_at t number) direction number iv buf start n skip) start n skip ≡ buf) e
      (traffic-twice t direction number iv buf start n skip bytes) e

-- the call for a whole PDU (document 02, [1]): bits beside its pieces never move, and neither does a bit from its length on; the same call on the
-- result, over any table that has the same slot, brings it back
module _ (t : List Slot) (direction number : ℕ) (iv buf : List ℕ) (u : Pdu) (e : (whole_answer_in t direction number iv buf u).refusal ≡ done) where
  pub pdu-beside : (j : ℕ) → Beside (whole_plan buf u).first.start (whole_plan buf u).first.length j
      → Beside (whole_plan buf u).second.start (whole_plan buf u).second.length j → bit_at ((whole_answer_in t direction number iv buf u).buffer) j ≡ bit_at buf j
  pdu-beside = whole-outside (is_no_table t) (slot_at t number) direction number iv buf u e

  pub pdu-beyond : (j : ℕ) → u.length ≤ j → bit_at ((whole_answer_in t direction number iv buf u).buffer) j ≡ bit_at buf j
  pdu-beyond = whole-beyond (is_no_table t) (slot_at t number) direction number iv buf u e

  pub pdu-again : (t' : List Slot) → is_no_table t' ≡ false → slot_at t' number ≡ slot_at t number → ((q : ℕ) → get_or buf q 0 < 256)
      → ((whole_answer_in t' direction number iv ((whole_answer_in t direction number iv buf u).buffer) u).refusal ≡ done)
      × ((whole_answer_in t' direction number iv ((whole_answer_in t direction number iv buf u).buffer) u).buffer ≡ buf)
  pdu-again t' = whole_twice (is_no_table t) (slot_at t number) direction number iv buf u e (is_no_table t') (slot_at t' number)

module _ (algorithm : ℕ) (key iv buf : List ℕ) (n : ℕ) where
  -- "keystream": bit i of the buffer
  pub bench-inside : bench_refusal algorithm key iv buf n ≡ done → (i : ℕ) → i < n → bit_at (benched algorithm key iv buf n) i ≡ keystream algorithm key iv i
  unfolding benched
  bench-inside e i h =
      let inside = (keyed-passed algorithm (length key) (length iv) (length buf) 0 n 0 e).span.inside in
      let z : 0 + i ≡ i = zero-add i in
      rw (eq-eqb (bench_refusal algorithm key iv buf n) done e)
      (simp z at (written-inside (keystream algorithm key iv) (stream-lt _) buf 0 0 n i h (omega arith)))

  pub bench-beside : (j : ℕ) → n ≤ j → bit_at (benched algorithm key iv buf n) j ≡ bit_at buf j
  unfolding benched
  bench-beside j h =
      pick-cases (λ (l : List ℕ). bit_at l j ≡ bit_at buf j) (eqb (bench_refusal algorithm key iv buf n) done)
      (λ _. written-outside (keystream algorithm key iv) (stream-lt _) buf 0 0 n j (λ _. omega arith))
      (λ _. refl)
