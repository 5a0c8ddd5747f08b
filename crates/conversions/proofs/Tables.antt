-- A text that reads whole and repeats no number is gathered, any other is not; and what the table then holds. Assumes nothing.
use mathlib.Core.Path.{◌≡◌, refl, sym, ap, ◌∙◌}
use mathlib.Core.Bool.{Bool, true, false, true≢false}
use mathlib.Core.Logic.{◌⊎◌, inl, inr, ⊎_elim}
use mathlib.Core.List.{List, [], ◌∷◌, ◌++◌}
use Prim.Native.Nat.{ℕ, zero, suc, ◌+◌, ◌-◌, ◌≤◌, ◌<◌}
use native.Mathlib.Omega.{arith}
use lib.Dec.{leb}
use lib.ListN.{length, drop, length-append, length-set, get_or-replicate}
use lib.Seq.{drop_at}
use borrow.Author.Tests.{le-leb}
use Rattle.laws.specs.Choice.{pick}
use Rattle.laws.proofs.Cases.{lt-or-le, eq-or-ne, pick-cases}
use Rattle.fields.specs.Fields.{is_slot_number}
use Rattle.fields.proofs.Ranges.{between-low, between-high}
use Rattle.slots.specs.declared.Slot.{Slot}
use Rattle.slots.specs.Slots.{is_filled, empty, empty_table, nil, slot_at, with_slot}
use Rattle.slot_calls.specs.Seen.{slot_as}
use Rattle.slot_calls.proofs.Left.{slot-stored, slot-other}
use Rattle.record_text.specs.Text.{form_text, InCode, Good}
use Rattle.record_reader.specs.Record.{RecordRead, Entry, starts_form, entry_read, record_read}
use Rattle.records.proofs.Promises.{good-is-read, read-is-good}
use Rattle.loading.proofs.Loads.{taken}
use Rattle.gathering.specs.Gathering.{Gathered}
use Rattle.gathering.specs.Gathering.{gathered_to, entered, gather_on, gathered}
use Rattle.gathering.proofs.Gathers.{Entered, enters, enter-free, gather-end, gather-stops, gather-next}
use Rattle.conversions.specs.Conforms.{In, Apart, Reads, Known, Numbered}

abbrev pub number_of : Entry → ℕ
number_of e = e.number

abbrev pub slot_of : Entry → Slot
slot_of e = record { fields = e.fields; key = e.key }

-- a slot, by its number, after another is stored

module _ (t : List Slot) (n : ℕ) (h : is_slot_number n ≡ true) (s : Slot) where
  pub as_same : length t ≡ 32 → slot_as (with_slot t n s) n ≡ s
  as_same size = rw h (slot-stored t n h s size)

  pub as-other : (m : ℕ) → (m ≡ n → ⊥) → slot_as (with_slot t n s) m ≡ slot_as t m
  as-other m ne = go (is_slot_number m) refl
    where
      go : (b : Bool) → is_slot_number m ≡ b → pick b (slot_at (with_slot t n s) m) empty ≡ pick b (slot_at t m) empty
      go true e = slot-other t n h s m e ne
      go false e = refl

-- a good record fills a slot

code_in : (two : Bool) (high n : ℕ) → InCode two high n → leb n high ≡ true
code_in true high n h = le-leb n high h
code_in false high n h = le-leb n high (omega arith)

pub good-filled : (two : Bool) (e : Entry) → Good two e.number e.fields e.key → is_filled (slot_of e) ≡ true
unfolding is_filled
good-filled two e g =
    rw (g.algorithm, g.usage, g.side, g.place, code_in two 1023 e.fields.mcc g.mcc, code_in two 16383 e.fields.mnc g.mnc)

pub reads-good : (s : List ℕ) (es : List Entry) → Reads s es → (e : Entry) → In e es → (two : Bool) × Good two e.number e.fields e.key
reads-good s [] r e m = absurd m
reads-good s (x ∷ es) r e (inl p) = (r.two, rw p r.good)
reads-good s (x ∷ es) r e (inr m) = reads-good r.rest es r.then e m

-- the records that are entered into a table one after the other

abbrev pub table_of : List Slot → List Entry → List Slot
table_of t [] = t
table_of t (e ∷ es) = table_of (with_slot t e.number (slot_of e)) es

-- none of the records is there yet
abbrev pub Fresh : List Slot → List Entry → Type 0
Fresh t es = (e : Entry) → In e es → is_filled (slot_as t e.number) ≡ false

pub gather-known : (t : List Slot) (s : List ℕ) (es : List Entry) → Reads s es → Apart number_of es → Fresh t es → gather_on t s ≡ gathered_to (table_of t es)
gather-known t s [] r a f = gather-end t s (ap length r)
gather-known t s (e ∷ es) r a f =
    let text = form_text r.two e.number e.fields e.key in
    let read : record_read s ≡ entry_read e (length text) =
    good-is-read s r.two e.number e.fields e.key (record { good = r.good; rest = r.rest; is = r.is }) in
    let took = taken s (ap (λ (x : RecordRead). x.refusal) read) in
    let next : entered t (record_read s) ≡ gathered_to (with_slot t e.number (slot_of e)) =
    ap (entered t) read ∙ enter-free t (entry_read e (length text)) refl (f e (inl refl)) in
    gather-next t s (omega (arith, took.some, took.within)) (ap (λ (g : Gathered). g.good) next)
    ∙ (λ i. gather_on (next i).table (drop (read i).used s))
    ∙ ap (gather_on (with_slot t e.number (slot_of e))) (ap (drop (length text)) r.is ∙ drop_at text r.rest (length text) refl)
    ∙ gather-known (with_slot t e.number (slot_of e)) r.rest es r.then a.1
    (λ y m. ap is_filled (as-other t e.number r.good.slot (slot_of e) y.number (a.0 y m)) ∙ f y (inr m))

-- the other way round

pub record Gathers (t : List Slot) (s : List ℕ) : Type 0 where
  pub records : List Entry
  pub reads : Reads s records
  pub once : Apart number_of records
  pub fresh : Fresh t records

module _ (t : List Slot) (s : List ℕ) (size : length t ≡ 32) (e : Entered t (record_read s)) where
  abbrev first : Entry
  first = record { number = (record_read s).number; fields = (record_read s).fields; key = (record_read s).key }

  then-gathers : is_slot_number first.number ≡ true → is_filled (slot_of first) ≡ true → {rest : List ℕ}
      → (g : Gathers (with_slot t first.number (slot_of first)) rest)
      → Apart number_of (first ∷ g.records) × Fresh t (first ∷ g.records)
  then-gathers numbered filled g = ((apart, g.once), fresh)
    where
      apart : (y : Entry) → In y g.records → y.number ≡ first.number → ⊥
      apart y m p =
          true≢false
          (sym filled
          ∙ ap is_filled (sym (as_same t first.number numbered (slot_of first) size))
          ∙ ap (λ (n : ℕ). is_filled (slot_as (with_slot t first.number (slot_of first)) n)) (sym p)
          ∙ g.fresh y m)

      fresh : (y : Entry) → In y (first ∷ g.records) → is_filled (slot_as t y.number) ≡ false
      fresh y (inl p) = ap (λ (x : Entry). is_filled (slot_as t x.number)) p ∙ e.free
      fresh y (inr m) = ap is_filled (sym (as-other t first.number numbered (slot_of first) y.number (apart y m))) ∙ g.fresh y m

none_left : (s : List ℕ) → length s ≤ 0 → s ≡ []
none_left [] h = refl
none_left (b ∷ s) h = absurd (omega arith)

nothing : (t : List Slot) (s : List ℕ) → length s ≤ 0 → Gathers t s
nothing t s h = record { records = []; reads = none_left s h; once = tt; fresh = λ e m. absurd m }

pub gathered-known : (k : ℕ) (t : List Slot) (s : List ℕ) → length s ≤ k → length t ≡ 32 → (gather_on t s).good ≡ true → Gathers t s
gathered-known zero t s h size g = nothing t s h
gathered-known (suc k) t s h size g =
    ⊎_elim (λ some. go some (entered t (record_read s)).good refl (λ u rest. gathered-known k u rest)) (nothing t s) (lt-or-le 0 (length s))
  where
    go : 0 < length s → (x : Bool) → (entered t (record_read s)).good ≡ x
        → ((u : List Slot) (rest : List ℕ) → length rest ≤ k → length u ≡ 32 → (gather_on u rest).good ≡ true → Gathers u rest) → Gathers t s
    go some false e known = absurd (true≢false (sym g ∙ ap (λ (y : Gathered). y.good) (gather-stops t s some e)))
    go some true e known =
        let en = enters t (record_read s) e in
        let read = read-is-good s en.reads in
        let b = read.0 in
        let text = form_text (starts_form s) (record_read s).number (record_read s).fields (record_read s).key in
        let took = taken s en.reads in
        let size-rest : length s ≡ length text + length b.rest = ap length b.is ∙ length-append text b.rest in
        let behind : drop (record_read s).used s ≡ b.rest = ap (drop (record_read s).used) b.is ∙ drop_at text b.rest _ (sym read.1) in
        let next : gather_on t s ≡ gather_on (with_slot t (record_read s).number (slot_of (first t s size en))) b.rest =
        gather-next t s some e ∙ (λ i. gather_on (en.becomes i).table (behind i)) in
        let more = known (with_slot t (record_read s).number (slot_of (first t s size en))) b.rest
        (omega (arith, size-rest, read.1, took.some)) (length-set t ((record_read s).number - 1) _ ∙ size) (ap (λ (y : Gathered). y.good) (sym next) ∙ g) in
        let both = then-gathers t s size en b.good.slot (good-filled (starts_form s) (first t s size en) b.good) more in
        record {
          records = first t s size en ∷ more.records;
          reads = record { two = starts_form s; good = b.good; rest = b.rest; is = b.is; then = more.reads };
          once = both.0;
          fresh = both.1;
        }

-- what a table holds of records

pub record Holds (t : List Slot) (es : List Entry) : Type 0 where
  pub stored : (e : Entry) → In e es → slot_as t e.number ≡ slot_of e
  pub only : (n : ℕ) → is_filled (slot_as t n) ≡ true → Numbered es n

abbrev pub AllNumbered : List Entry → Type 0
AllNumbered es = (e : Entry) → In e es → is_slot_number e.number ≡ true

untouched : (t : List Slot) (es : List Entry) → AllNumbered es → (n : ℕ) → ((e : Entry) → In e es → e.number ≡ n → ⊥) → slot_as (table_of t es) n ≡ slot_as t n
untouched t [] v n none = refl
untouched t (e ∷ es) v n none =
    untouched (with_slot t e.number (slot_of e)) es (λ y m. v y (inr m)) n (λ y m. none y (inr m))
    ∙ as-other t e.number (v e (inl refl)) (slot_of e) n (λ p. none e (inl refl) (sym p))

stored-in : (t : List Slot) (es : List Entry) → length t ≡ 32 → AllNumbered es → Apart number_of es → (e : Entry) → In e es → slot_as (table_of t es) e.number ≡ slot_of e
stored-in t [] size v a e m = absurd m
stored-in t (x ∷ es) size v a e (inl p) =
    ap (λ (y : Entry). slot_as (table_of t (x ∷ es)) y.number) p
    ∙ untouched (with_slot t x.number (slot_of x)) es (λ y m. v y (inr m)) x.number a.0
    ∙ as_same t x.number (v x (inl refl)) (slot_of x) size
    ∙ ap slot_of (sym p)
stored-in t (x ∷ es) size v a e (inr m) =
    stored-in (with_slot t x.number (slot_of x)) es (length-set t (x.number - 1) (slot_of x) ∙ size) (λ y m. v y (inr m)) a.1 e m

there-in : (t : List Slot) (es : List Entry) → AllNumbered es → (n : ℕ) → is_filled (slot_as (table_of t es) n) ≡ true → Numbered es n ⊎ (is_filled (slot_as t n) ≡ true)
there-in t [] v n h = inr h
there-in t (x ∷ es) v n h =
    ⊎_elim (λ y. inl (record { entry = y.entry; stands = inr y.stands; number = y.number }))
    (λ f. ⊎_elim (λ p. inl (record { entry = x; stands = inl refl; number = sym p }))
    (λ ne. inr (ap is_filled (sym (as-other t x.number (v x (inl refl)) (slot_of x) n ne)) ∙ f))
    (eq-or-ne n x.number))
    (there-in (with_slot t x.number (slot_of x)) es (λ y m. v y (inr m)) n h)

empty-none : (n : ℕ) → is_filled (slot_as empty_table n) ≡ false
unfolding is_filled
empty-none n =
    pick-cases (λ s. is_filled s ≡ false) (is_slot_number n)
    (λ h. ap is_filled (get_or-replicate 32 (n - 1) empty nil (omega (arith, between-low 1 n 32 h, between-high 1 n 32 h))))
    (λ _. refl)

-- of a whole text

pub text-known : (s : List ℕ) → (gathered s).good ≡ true → Known s
unfolding gathered
text-known s h =
    let g = gathered-known (length s) empty_table s (omega arith) refl h in
    record { records = g.records; reads = g.reads; once = g.once }

module _ (s : List ℕ) (k : Known s) where
  abbrev pub held : List Slot
  held = table_of empty_table k.records

  pub known-gathered : gathered s ≡ gathered_to held
  unfolding gathered
  known-gathered = gather-known empty_table s k.records k.reads k.once (λ e m. empty-none e.number)

  pub known-numbered : AllNumbered k.records
  known-numbered e m = (reads-good s k.records k.reads e m).1.slot

  pub known-filled : (e : Entry) → In e k.records → is_filled (slot_of e) ≡ true
  known-filled e m = let g = reads-good s k.records k.reads e m in good-filled g.0 e g.1

  pub known-size : (e : Entry) → In e k.records → length e.key ≡ 24
  known-size e m = (reads-good s k.records k.reads e m).1.size

  pub known-holds : Holds held k.records
  known-holds =
      record {
        stored = stored-in empty_table k.records refl known-numbered k.once;
        only = λ n h. ⊎_elim (λ y. y) (λ f. absurd (true≢false (sym f ∙ empty-none n))) (there-in empty_table k.records known-numbered n h);
      }
