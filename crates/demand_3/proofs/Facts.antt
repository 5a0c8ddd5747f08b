-- The facts of Local, of our card, a lemma for each. They stand in such an order that each of the seven edits of our card stops first at the
-- fact that is false of the edited card (docs/DEMAND-3.md, "What it shuts out"); of other edits that is not said. Assumes nothing.
use mathlib.Core.Bool.{true, false, true≢false}
use mathlib.Core.List.{List}
use mathlib.Core.Path.{◌≡◌, refl, sym, ap, ◌∙◌}
use Prim.Native.Nat.{ℕ, ◌*◌, ◌-◌, ◌<◌}
use native.Mathlib.Omega.{arith}
use borrow.Author.Tests.{eqb-true, ne_eqb, le-leb, ltb-false}
use lib.Dec.{eqb}
use lib.ListN.{length}
use Rattle.laws.specs.Bits.{bit_at}
use Rattle.laws.proofs.Cases.{pick-cases, neither}
use Rattle.refusals.specs.Numbers.{done}
use Rattle.fields.specs.declared.Asked.{Asked}
use Rattle.fields.specs.Fields.{asked_of}
use Rattle.fields.proofs.Ranges.{place-high}
use Rattle.slots.specs.declared.Slot.{Slot}
use Rattle.slot_calls.specs.Answers.{Changed, Shown}
use Rattle.slots.specs.Slots.{has_bad, is_filled, empty, slot_at, with_slot}
use Rattle.rights.specs.Rights.{within, includes}
use Rattle.slot_calls.specs.Calls.{move_refusal, answered, moved}
use Rattle.slots.proofs.Tables.{filled-else, good-at}
use Rattle.slot_calls.proofs.Passed.{LoadPassed, MovePassed, SlotPassed, ClearPassed, load-passed, move-passed, clear-passed}
use Rattle.slot_calls.proofs.Left.{slot-stored, slot-other, to-filled, move-arrives, move-empties}
use Rattle.slot_calls.proofs.Alike.{Alike, AlikeChanged, bad-alike, fields-alike, slot-refusal-alike, load-alike, move-alike, clear-alike, read_alike}
use Rattle.span.specs.Span.{xored}
use Rattle.span.proofs.Within.{Beside}
use Rattle.span.proofs.Laws.{length-xored, xored-outside}
use Rattle.span.proofs.Stream.{stream-lt}
use Rattle.traffic.specs.Traffic.{on_side, slot_stream, use_refusal_of, traffic_refusal_of, traffic_refusal, traffic_blocks_of, trafficked_of, trafficked}
use Rattle.traffic.proofs.Laws.{traffic-refused}
use Rattle.traffic.proofs.Passed.{UsePassedOf, use-passed-of, traffic-passed}
use Rattle.plan.specs.declared.Piece.{Piece}
use Rattle.whole.specs.declared.Pdu.{Pdu}
use Rattle.whole.specs.Whole.{open_refusal_of, whole_plan, whole_refusal_of, whole_refusal, ciphered, whole_blocks_of, wholed_of, wholed}
use Rattle.whole.proofs.Passed.{whole-passed}
use Rattle.whole.proofs.Calls.{whole-refused}
use Rattle.whole.proofs.Flag.{ciphered-outside}
use Rattle.whole.proofs.Laws.{length-ciphered}
use Rattle.two_runs.specs.Calls.{Use, Work, span, pdu, in_piece, span_of}
use Rattle.two_runs.specs.Step.{told, changing, reading}
use Rattle.demand_3.specs.Ours.{our_card}
use Rattle.two_runs.specs.Demand.{with_use}
use Rattle.demand_3.proofs.Local.{loaded_slot, AlikeSteps, Leaves, Arriving, Taken, Blind, Local}

-- a call that answers in the form of our load, move and clear

changing-alike : {x y : Changed} → AlikeChanged x y → AlikeSteps (changing x) (changing y)
changing-alike alike = record { seen = ap told alike.refusal; table = alike.table }

leaves : {Passed : Type 0} (r : ℕ) (before after : List Slot) → (r ≡ done → Passed) → Leaves before Passed after (changing (answered r before after))
leaves r before after passed = record { passed = passed; accepted = λ e. rw e; refused = λ ne. rw (ne_eqb r done ne) }

-- load

load-blind : (a b : List Slot) (number : ℕ) (x : Asked) (key other : List ℕ) → Alike a b → AlikeSteps (our_card.load a number x key) (our_card.load b number x other)
load-blind a b number x key other alike = changing-alike (load-alike a b number x key other alike)

load-leaves : (table : List Slot) (number : ℕ) (x : Asked) (key : List ℕ) → Leaves table (LoadPassed table number x) (with_slot table number (loaded_slot x key)) (our_card.load table number x key)
load-leaves table number x key = leaves _ table _ (load-passed table number x)

-- move: whatever slot is put into the second place, that slot arrives

module _ (table : List Slot) (from to asked : ℕ) (size : length table ≡ 32) (e : move_refusal table from to asked ≡ done) where
  not_itself : to ≡ from → ⊥
  unfolding is_filled
  not_itself s =
      let arrives = move-arrives table from to asked size e in
      let new-empty = sym arrives ∙ ap (slot_at (moved table from to asked).table) s ∙ move-empties table from to asked size e in
      true≢false (sym (to-filled table from to asked e) ∙ ap is_filled new-empty)

  arrives : (new : Slot) → slot_at (answered (move_refusal table from to asked) table (with_slot (with_slot table to new) from empty)).table to ≡ new
  arrives new =
      let passed = move-passed table from to asked e in
      rw e (slot-other (with_slot table to new) from passed.from-numbered empty to passed.to-numbered not_itself ∙ slot-stored table to passed.to-numbered new size)

move-keeps-use : Arriving our_card (λ old new. within new.fields.usage old.fields.usage ≡ true)
move-keeps-use table from to asked size e = rw (arrives table from to asked size e) (move-passed table from to asked e).narrow

move-keeps-place : Arriving our_card (λ old new. new.fields.place ≡ old.fields.place)
move-keeps-place table from to asked size e = rw (arrives table from to asked size e)

move-keeps-rest : Arriving our_card (λ old new. new ≡ with_use old new.fields.usage)
move-keeps-rest table from to asked size e =
    let old = slot_at table from in
    let new = slot_at (our_card.move table from to asked).table to in
    let here = arrives table from to asked size e in
    let version : new.fields.version ≡ old.fields.version = rw here in
    let algorithm : new.fields.algorithm ≡ old.fields.algorithm = rw here in
    let side : new.fields.side ≡ old.fields.side = rw here in
    let place = move-keeps-place table from to asked size e in
    let mcc : new.fields.mcc ≡ old.fields.mcc = rw here in
    let mnc : new.fields.mnc ≡ old.fields.mnc = rw here in
    let key : new.key ≡ old.key = rw here in
    λ i.
    record {
      fields =
          record { version = version i; algorithm = algorithm i; usage = new.fields.usage; side = side i; place = place i; mcc = mcc i; mnc = mnc i };
      key = key i;
    }

move-blind : (a b : List Slot) (from to asked : ℕ) → Alike a b → AlikeSteps (our_card.move a from to asked) (our_card.move b from to asked)
move-blind a b from to asked alike = changing-alike (move-alike a b from to asked alike)

move-leaves : (table : List Slot) (from to asked : ℕ) → length table ≡ 32
    → Leaves table (MovePassed table from to asked) (with_slot (with_slot table to (slot_at (our_card.move table from to asked).table to)) from empty) (our_card.move table from to asked)
move-leaves table from to asked size =
    let left = leaves _ table _ (move-passed table from to asked) in
    record { passed = left.passed; accepted = λ e. rw (arrives table from to asked size e) (left.accepted e); refused = left.refused }

-- clear and read

clear-blind : (a b : List Slot) (number : ℕ) → Alike a b → AlikeSteps (our_card.clear a number) (our_card.clear b number)
clear-blind a b number alike = changing-alike (clear-alike a b number alike)

clear-leaves : (table : List Slot) (number : ℕ) → Leaves table (ClearPassed table number) (with_slot table number empty) (our_card.clear table number)
clear-leaves table number = leaves _ table _ (clear-passed table number)

read-blind : (a b : List Slot) (number : ℕ) → Alike a b → (our_card.read a number).seen ≡ (our_card.read b number).seen
read-blind a b number alike = ap (λ (x : Shown). (reading a x).seen) (read_alike a b number alike)

-- traffic

sends-on-its-side : Taken our_card (λ slot how. how.direction ≡ 1 → bit_at how.iv slot.fields.place ≡ slot.fields.side)
sends-on-its-side table how buf (span start n skip) e send =
    let fields = (slot_at table how.number).fields in
    let passed = traffic-passed table how.direction how.number how.iv buf start n skip e in
    let side : on_side 1 fields how.iv ≡ true = rw send at passed.allowed.on-side in
    eqb-true (bit_at how.iv fields.place) fields.side side
sends-on-its-side table how buf (pdu u) e send =
    let fields = (slot_at table how.number).fields in
    let side : on_side 1 fields how.iv ≡ true = rw send at (use-passed-of _ _ _ _ _ (whole-passed _ _ _ _ _ buf u e).room.allowed).on-side in
    eqb-true (bit_at how.iv fields.place) fields.side side

allowed : (table : List Slot) (how : Use) (buf : List ℕ) (w : Work) → (our_card.traffic table how buf w).seen.refusal ≡ done → UsePassedOf (has_bad table) (slot_at table how.number) how.direction how.number how.iv
allowed table how buf (span start n skip) e = (traffic-passed table how.direction how.number how.iv buf start n skip e).allowed
allowed table how buf (pdu u) e = use-passed-of _ _ _ _ _ (whole-passed _ _ _ _ _ buf u e).room.allowed

has-its-place : Taken our_card (λ slot how. slot.fields.place < 8 * length how.iv)
unfolding is_filled
has-its-place table how buf w e =
    let slot = slot_at table how.number in
    let passed = allowed table how buf w e in
    let filled = filled-else slot (good-at table (how.number - 1) passed.good) passed.slot.there in
    let low = place-high (asked_of slot.fields) filled in
    omega (arith, passed.iv-10, low)

within-its-use : Taken our_card (λ slot how. includes slot.fields.usage how.direction ≡ true)
within-its-use table how buf w e = (allowed table how buf w e).included

on-a-filled-slot : (table : List Slot) (how : Use) (buf : List ℕ) (w : Work) → (our_card.traffic table how buf w).seen.refusal ≡ done → SlotPassed table how.number
on-a-filled-slot table how buf w e = (allowed table how buf w e).slot

refusal-blind : Blind our_card (λ x. x.refusal)
unfolding traffic_refusal_of whole_refusal_of open_refusal_of use_refusal_of
refusal-blind a b alike how buf (span start n skip) =
    rw (bad-alike a b alike, slot-refusal-alike a b alike how.number, fields-alike a b alike how.number)
refusal-blind a b alike how buf (pdu u) =
    rw (bad-alike a b alike, slot-refusal-alike a b alike how.number, fields-alike a b alike how.number)

blocks-blind : Blind our_card (λ x. x.blocks)
unfolding traffic_blocks_of whole_blocks_of
blocks-blind a b alike how buf (span start n skip) = rw (refusal-blind a b alike how buf (span start n skip))
blocks-blind a b alike how buf (pdu u) = rw (refusal-blind a b alike how buf (pdu u))

number-blind : Blind our_card (λ x. x.number)
number-blind a b alike how buf (span start n skip) = refl
number-blind a b alike how buf (pdu u) = refl

fields-blind : Blind our_card (λ x. x.fields)
fields-blind a b alike how buf (span start n skip) = refl
fields-blind a b alike how buf (pdu u) = refl

traffic-leaves : (table : List Slot) (how : Use) (buf : List ℕ) (w : Work) → (our_card.traffic table how buf w).table ≡ table
traffic-leaves table how buf (span start n skip) = refl
traffic-leaves table how buf (pdu u) = refl

-- what a traffic call makes of its buffer: itself, or its bits xored
either-buffer : (P : List ℕ → Type 0) (table : List Slot) (how : Use) (buf : List ℕ) (start n skip : ℕ) → P (xored buf (slot_stream (slot_at table how.number) how.iv) start skip n) → P buf
    → P (trafficked table how.direction how.number how.iv buf start n skip)
unfolding trafficked_of
either-buffer P table how buf start n skip ciphered same =
    pick-cases P (eqb (traffic_refusal table how.direction how.number how.iv buf start n skip) done) (λ e. ciphered) (λ e. same)

-- and a call for a whole PDU: itself, or its pieces xored
either-pdu : (P : List ℕ → Type 0) (table : List Slot) (how : Use) (buf : List ℕ) (u : Pdu) → P (ciphered buf (slot_stream (slot_at table how.number) how.iv) (whole_plan buf u)) → P buf
    → P (wholed table how.direction how.number how.iv buf u)
unfolding wholed_of
either-pdu P table how buf u done-so same = pick-cases P (eqb (whole_refusal table how.direction how.number how.iv buf u) done) (λ e. done-so) (λ e. same)

-- no bit of a span
beside-span : (start n skip j : ℕ) (buf : List ℕ) → span_of (span start n skip) buf j ≡ false → Beside start n j
beside-span start n skip j buf out low = ltb-false j _ (rw (le-leb start j low) at out)

-- no bit of a piece
beside-piece : (p : Piece) (j : ℕ) → in_piece p j ≡ false → Beside p.start p.length j
beside-piece p j out low = ltb-false j _ (rw (le-leb p.start j low) at out)

beside-stays : (table : List Slot) (how : Use) (buf : List ℕ) (w : Work) (j : ℕ) → span_of w buf j ≡ false → bit_at (our_card.traffic table how buf w).seen.buffer j ≡ bit_at buf j
beside-stays table how buf (span start n skip) j out =
    either-buffer (λ l. bit_at l j ≡ bit_at buf j) table how buf start n skip
    (xored-outside (slot_stream (slot_at table how.number) how.iv) (stream-lt _) buf start skip n j (beside-span start n skip j buf out)) refl
beside-stays table how buf (pdu u) j out =
    let p = whole_plan buf u in
    let beside = neither (in_piece p.first j) (in_piece p.second j) out in
    either-pdu (λ l. bit_at l j ≡ bit_at buf j) table how buf u
    (ciphered-outside (slot_stream (slot_at table how.number) how.iv) (stream-lt _) buf p j (beside-piece p.first j beside.0) (beside-piece p.second j beside.1)) refl

size-stays : (table : List Slot) (how : Use) (buf : List ℕ) (w : Work) → length (our_card.traffic table how buf w).seen.buffer ≡ length buf
size-stays table how buf (span start n skip) =
    either-buffer (λ l. length l ≡ length buf) table how buf start n skip
    (length-xored buf (slot_stream (slot_at table how.number) how.iv) start skip n) refl
size-stays table how buf (pdu u) =
    either-pdu (λ l. length l ≡ length buf) table how buf u
    (length-ciphered (slot_stream (slot_at table how.number) how.iv) (stream-lt _) buf (whole_plan buf u)) refl

refused-stays : (table : List Slot) (how : Use) (buf : List ℕ) (w : Work) → ((our_card.traffic table how buf w).seen.refusal ≡ done → ⊥) → (our_card.traffic table how buf w).seen.buffer ≡ buf
refused-stays table how buf (span start n skip) = traffic-refused table how.direction how.number how.iv buf start n skip
refused-stays table how buf (pdu u) = whole-refused (has_bad table) (slot_at table how.number) how.direction how.number how.iv buf u

own-key-alone : (a b : List Slot) → Alike a b → (how : Use) (buf : List ℕ) (w : Work) → (slot_at a how.number).key ≡ (slot_at b how.number).key
    → (our_card.traffic a how buf w).seen.buffer ≡ (our_card.traffic b how buf w).seen.buffer
unfolding trafficked_of wholed_of
own-key-alone a b alike how buf (span start n skip) key =
    rw (refusal-blind a b alike how buf (span start n skip), key, fields-alike a b alike how.number)
own-key-alone a b alike how buf (pdu u) key = rw (refusal-blind a b alike how buf (pdu u), key, fields-alike a b alike how.number)

pub our-facts : Local our_card
our-facts = record {
  load-blind = load-blind;
  load-leaves = load-leaves;
  move-keeps-use = move-keeps-use;
  move-keeps-rest = move-keeps-rest;
  move-blind = move-blind;
  move-leaves = move-leaves;
  clear-blind = clear-blind;
  clear-leaves = clear-leaves;
  read-blind = read-blind;
  read-leaves = λ table number. refl;
  sends-on-its-side = sends-on-its-side;
  has-its-place = has-its-place;
  within-its-use = within-its-use;
  on-a-filled-slot = on-a-filled-slot;
  refusal-blind = refusal-blind;
  blocks-blind = blocks-blind;
  number-blind = number-blind;
  fields-blind = fields-blind;
  traffic-leaves = traffic-leaves;
  beside-stays = beside-stays;
  size-stays = size-stays;
  refused-stays = refused-stays;
  own-key-alone = own-key-alone;
}
