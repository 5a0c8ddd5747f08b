-- After any calls that load nothing, the records left are a conversion of those at the start: of any text whose records the start holds.
-- Assumes nothing.
use mathlib.Core.Path.{◌≡◌, refl, sym, ap, subst, ◌∙◌}
use mathlib.Core.Bool.{true, false, true≢false}
use mathlib.Core.Logic.{inl, inr}
use mathlib.Core.List.{List, [], ◌∷◌, map}
use mathlib.Core.Option.{Option, none, some}
use Prim.Native.Nat.{ℕ}
use lib.ListN.{length}
use Rattle.fields.specs.Fields.{is_slot_number}
use Rattle.slots.specs.declared.Slot.{Slot}
use Rattle.slots.specs.Slots.{is_filled, has_bad, slot_at}
use Rattle.slots.proofs.Tables.{filled-not-empty}
use Rattle.record_text.specs.Text.{Good}
use Rattle.record_reader.specs.Record.{Entry}
use Rattle.two_runs.specs.Calls.{Call, Origin, present}
use Rattle.demand_3.specs.Ours.{our_card}
use Rattle.two_runs.specs.Trace.{Trace}
use Rattle.two_runs.specs.Run.{start_of, table_at, trace_at}
use Rattle.two_runs.specs.Demand.{given, Kept, Holds}
use Rattle.sessions.proofs.Corollaries.{alone}
use Rattle.conversions.specs.Conforms.{In, Apart, Known, Pair, AlikeEntries, Joins, Conforms, Converts, pairs_of}
use Rattle.conversions.proofs.Tables.{reads-good}
use Rattle.kept_rights.specs.Left.{entry_of, entries_of, entries_text, start_number, pairs_left, has_load, OfKind}
use Rattle.kept_rights.proofs.Records.{OfTable, of-table, records-once, entry-good, text-reads}
use Rattle.kept_rights.proofs.Origins.{origins-owned, good-at-call}

-- lists that a function makes of others

module _ {A B : Type 0} (f : A → B) where
  in_map : (l : List A) (x : A) → In x l → In (f x) (map f l)
  in_map [] x m = absurd m
  in_map (y ∷ l) x (inl e) = inl (ap f e)
  in_map (y ∷ l) x (inr m) = inr (in_map l x m)

  record Made (l : List A) (y : B) : Type 0 where
    source : A
    there : In source l
    is : y ≡ f source

  map-in : (l : List A) (y : B) → In y (map f l) → Made l y
  map-in [] y m = absurd m
  map-in (x ∷ l) y (inl e) = record { source = x; there = inl refl; is = e }
  map-in (x ∷ l) y (inr m) = let r = map-in l y m in record { source = r.source; there = inr r.there; is = r.is }

  -- where what is made of two has one number, they have one themselves
  map-apart : (number : A → ℕ) (other : B → ℕ) (l : List A) → ((x y : A) → In x l → In y l → other (f x) ≡ other (f y) → number x ≡ number y)
      → Apart number l → Apart other (map f l)
  map-apart number other [] h a = tt
  map-apart number other (x ∷ l) h a = (
    λ y m e. let r = map-in l y m in a.0 r.source r.there (h r.source x (inr r.there) (inl refl) (ap other (sym r.is) ∙ e)),
    map-apart number other l (λ y z m n. h y z (inr m) (inr n)) a.1,
  )

-- the flat list, as pairs

abbrev pair_of : Trace → Entry → Pair
pair_of trace e = record { before = start_number (trace e.number); after = e.number }

pairs-are : (trace : Trace) (es : List Entry) → pairs_of (pairs_left trace es) ≡ map (pair_of trace) es
unfolding pairs_left
pairs-are trace [] = refl
pairs-are trace (e ∷ es) = ap (λ (l : List Pair). pair_of trace e ∷ l) (pairs-are trace es)

-- a record, and what it was at the start

kept-agrees : (m n : ℕ) {old new : Slot} → Kept old new → AlikeEntries (entry_of m old) (entry_of n new)
kept-agrees m n k = record {
  key = sym (ap (λ (s : Slot). s.key) k.rest);
  version = sym (ap (λ (s : Slot). s.fields.version) k.rest);
  algorithm = sym (ap (λ (s : Slot). s.fields.algorithm) k.rest);
  side = sym (ap (λ (s : Slot). s.fields.side) k.rest);
  place = sym (ap (λ (s : Slot). s.fields.place) k.rest);
  mcc = sym (ap (λ (s : Slot). s.fields.mcc) k.rest);
  mnc = sym (ap (λ (s : Slot). s.fields.mnc) k.rest);
  usage = k.usage;
}

kept-kind : {old new : Slot} → Kept old new → OfKind old → OfKind new
kept-kind {old} {new} k o =
    let version : new.fields.version ≡ old.fields.version = ap (λ (s : Slot). s.fields.version) k.rest in
    let key : new.key ≡ old.key = ap (λ (s : Slot). s.key) k.rest in
    record { version = rw version o.version; size = rw key o.size; bytes = λ i. rw key (o.bytes i) }

module _ (start : List Slot) (size : length start ≡ 32) (sound : has_bad start ≡ false) (cs : List Call) (loadless : has_load cs ≡ false) (i : ℕ) where
  abbrev left : List Slot
  left = table_at our_card start cs i

  abbrev trace : Trace
  trace = trace_at our_card start cs i

  -- what a filled slot was at the start
  record Was (n : ℕ) : Type 0 where
    number : ℕ
    traced : trace n ≡ some (present number)
    numbered : is_slot_number number ≡ true
    filled : is_filled (slot_at start number) ≡ true
    kept : Kept (slot_at start number) (slot_at left n)

  was : (n : ℕ) → is_slot_number n ≡ true → is_filled (slot_at left n) ≡ true → Was n
  was n h f = go (trace n) refl ((alone start size sound cs).traces i n h)
    where
      go : (origin : Option Origin) → trace n ≡ origin → Holds start cs origin (slot_at left n) → Was n
      go none e k = absurd (true≢false (sym k ∙ filled-not-empty (slot_at left n) f))
      go (some origin) e k =
          let o = (origins-owned start cs loadless i).held n h e in
          record {
            number = o.number;
            traced = e ∙ ap some o.is;
            numbered = o.numbered;
            filled = o.filled;
            kept = subst (λ (x : Origin). Kept (given start cs x) (slot_at left n)) o.is k;
          }

  size-left : length left ≡ 32
  size-left = (good-at-call (start_of start) cs (record { size = size; sound = sound }) i).size

  -- no two of them were one
  was-once : (m n : ℕ) → is_slot_number m ≡ true → is_slot_number n ≡ true → (x : Was m) (y : Was n) → x.number ≡ y.number → m ≡ n
  was-once m n h l x y e = (origins-owned start cs loadless i).once m n h l x.traced (y.traced ∙ ap (λ (k : ℕ). some (present k)) (sym e))

  abbrev after : List Entry
  after = entries_of left

  abbrev pairs : List ℕ
  pairs = pairs_left trace after

  before_of : {n : ℕ} (w : Was n) → start_number (trace n) ≡ w.number
  before_of w = ap start_number w.traced

  -- a record left: its slot, and what that was
  record Came (e : Entry) : Type 0 where
    slot : OfTable left e
    origin : Was e.number

  came : (e : Entry) → In e after → Came e
  came e m = let t = of-table left size-left e m in record { slot = t; origin = was e.number t.numbered t.filled }

  -- two records from one slot of the start are one
  from_one : (x y : Entry) → In x after → In y after → start_number (trace x.number) ≡ start_number (trace y.number) → x.number ≡ y.number
  from_one x y m n e =
      let v = came x m in
      let w = came y n in
      was-once x.number y.number v.slot.numbered w.slot.numbered v.origin w.origin (sym (before_of v.origin) ∙ e ∙ before_of w.origin)

  -- of a text with a record for each filled slot
  module _ (text : List ℕ) (known : Known text)
      (holds : (n : ℕ) → is_slot_number n ≡ true → is_filled (slot_at start n) ≡ true → In (entry_of n (slot_at start n)) known.records) where
    joins : (e : Entry) → In e after → Joins known.records after (pair_of trace e)
    joins e m =
        let c = came e m in
        let w = c.origin in
        record {
          from = record { entry = entry_of w.number (slot_at start w.number); stands = holds w.number w.numbered w.filled; number = sym (before_of w) };
          to = record { entry = e; stands = m; number = refl };
          agree = subst (AlikeEntries (entry_of w.number (slot_at start w.number))) (sym c.slot.is) (kept-agrees w.number e.number w.kept);
        }

    after-good : (e : Entry) → In e after → Good true e.number e.fields e.key
    after-good e m =
        let c = came e m in
        let w = c.origin in
        let g = (reads-good text known.records known.reads _ (holds w.number w.numbered w.filled)).1 in
        entry-good left e c.slot (kept-kind w.kept (record { version = g.version; size = g.size; bytes = g.bytes }))

    conforms : Conforms known.records after (map (pair_of trace) after)
    conforms = record {
      before-once = known.once;
      after-once = records-once 1 left;
      each_stands = λ e m. record { pair = pair_of trace e; listed = in_map (pair_of trace) after e m; number = refl };
      in-one-pair = map-apart (pair_of trace) (λ (e : Entry). e.number) (λ (p : Pair). p.after) after (λ x y m n e. e) (records-once 1 left);
      not-in-two = map-apart (pair_of trace) (λ (e : Entry). e.number) (λ (p : Pair). p.before) after from_one (records-once 1 left);
      joined = λ p m. let r = map-in (pair_of trace) after p m in subst (Joins known.records after) (sym r.is) (joins r.source r.there);
    }

    pub kept-converts : Converts text (entries_text after) (pairs_of pairs)
    kept-converts = record {
      befores = known.records;
      afters = after;
      before-reads = known.reads;
      after-reads = text-reads after after-good;
      conforms = subst (Conforms known.records after) (sym (pairs-are trace after)) conforms;
    }
