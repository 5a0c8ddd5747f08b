-- The table that a text of records gathers to, or that a sheet loads, is sound and holds the records of that text. Assumes nothing.
use mathlib.Core.Path.{◌≡◌, refl, sym, ap, ◌∙◌}
use mathlib.Core.Bool.{Bool, true, false, not}
use mathlib.Core.Logic.{inl, inr}
use mathlib.Core.List.{List, [], ◌∷◌}
use Prim.Native.Nat.{ℕ, zero, suc, ◌+◌, ◌-◌}
use lib.Dec.{eqb}
use lib.ListN.{length, drop, length-set}
use borrow.Author.Tests.{eqb-true, eqb-false}
use Rattle.laws.specs.Choice.{pick}
use Rattle.refusals.specs.Numbers.{done}
use Rattle.fields.specs.Fields.{is_slot_number, asked_of}
use Rattle.slots.specs.declared.Slot.{Slot}
use Rattle.slot_calls.specs.Answers.{Changed}
use Rattle.slots.specs.Slots.{is_filled, empty, empty_table, slot_at, with_slot}
use Rattle.slot_calls.specs.Seen.{slot_as}
use Rattle.slot_calls.specs.Calls.{loaded}
use Rattle.slots.proofs.Tables.{filled-not-bad, good-set}
use Rattle.slot_calls.proofs.Passed.{load-passed}
use Rattle.slot_calls.proofs.Left.{Good, empty-table-good}
use Rattle.record_reader.specs.Record.{RecordRead, Entry, record_read}
use Rattle.loading.specs.Loading.{Loaded}
use Rattle.loading.specs.Loading.{filled, refused, load_within, load_all}
use Rattle.gathering.specs.Gathering.{gathered_to, not_gathered, entered, gather_within, gather_on, gathered}
use Rattle.gathering.proofs.Gathers.{enter-free}
use Rattle.conversions.specs.Conforms.{In, Known}
use Rattle.conversions.proofs.Tables.{slot_of, table_of, held, known-filled, known-holds}
use Rattle.kept_rights.specs.Left.{entry_of}

as-there : (t : List Slot) (n : ℕ) → is_slot_number n ≡ true → slot_as t n ≡ slot_at t n
as-there t n h = ap (λ (b : Bool). pick b (slot_at t n) empty) h

-- good records leave a table sound
tables-good : (t : List Slot) (es : List Entry) → Good t → ((e : Entry) → In e es → is_filled (slot_of e) ≡ true) → Good (table_of t es)
tables-good t [] good filled = good
tables-good t (e ∷ es) good filled =
    tables-good (with_slot t e.number (slot_of e)) es
    (record {
      size = length-set t (e.number - 1) (slot_of e) ∙ good.size;
      sound = good-set t (e.number - 1) (slot_of e) good.sound (filled-not-bad (slot_of e) (filled e (inl refl)));
    })
    (λ x m. filled x (inr m))

module _ (text : List ℕ) (known : Known text) where
  pub held-good : Good (held text known)
  held-good = tables-good empty_table known.records empty-table-good (known-filled text known)

  -- each filled slot's record is one of the text's
  pub held-listed : (n : ℕ) → is_slot_number n ≡ true → is_filled (slot_at (held text known) n) ≡ true → In (entry_of n (slot_at (held text known) n)) known.records
  held-listed n h f =
      let t = held text known in
      let there = as-there t n h in
      let y = (known-holds text known).only n (ap is_filled there ∙ f) in
      let slot : slot_at t n ≡ slot_of y.entry = sym there ∙ ap (slot_as t) (sym y.number) ∙ (known-holds text known).stored y.entry y.stands in
      let entry : entry_of n (slot_at t n) ≡ y.entry = λ j. entry_of (sym y.number j) (slot j) in
      rw entry y.stands

-- a sheet that loads is gathered, and to the same table

module _ (k : ℕ) (t : List Slot) (position : ℕ) (s : List ℕ) where
  abbrev read : RecordRead
  read = record_read s

  abbrev change : Changed
  change = loaded t read.number (asked_of read.fields) read.key

  abbrev rest : List ℕ
  rest = drop read.used s

  enters-loaded : read.refusal ≡ done → change.refusal ≡ done → entered t read ≡ gathered_to change.table
  enters-loaded reads loads =
      let passed = load-passed t read.number (asked_of read.fields) loads in
      let there = as-there t read.number passed.numbered in
      enter-free t read reads (ap is_filled there ∙ passed.free) ∙ rw loads

  one_more : (x : Bool) (y : Bool) → eqb read.refusal done ≡ y → (z : Bool) → eqb change.refusal done ≡ z
      → ((load_within k change.table (position + 1) rest).refusal ≡ done
      → gather_within k change.table rest ≡ gathered_to (load_within k change.table (position + 1) rest).table)
      → let answer : Loaded =
      pick x (filled t)
      (pick (not y) (refused read.refusal position read.line read.column)
      (pick (not z) (refused change.refusal position 0 0)
      (load_within k change.table (position + 1) rest))) in
      answer.refusal ≡ done
      → pick x (gathered_to t) (pick (entered t read).good (gather_within k (entered t read).table rest) not_gathered) ≡ gathered_to answer.table
  one_more true y p z q later e = refl
  one_more false false p z q later e = absurd (eqb-false read.refusal done p e)
  one_more false true p false q later e = absurd (eqb-false change.refusal done q e)
  one_more false true p true q later e =
      let next = enters-loaded (eqb-true read.refusal done p) (eqb-true change.refusal done q) in
      (λ i. pick (next i).good (gather_within k (next i).table rest) not_gathered) ∙ later e

loads-gather : (k : ℕ) (t : List Slot) (position : ℕ) (s : List ℕ) → (load_within k t position s).refusal ≡ done
    → gather_within k t s ≡ gathered_to (load_within k t position s).table
unfolding load_within gather_within
loads-gather zero t position s e = refl
loads-gather (suc k) t position s e =
    one_more k t position s (eqb (length s) 0) (eqb (record_read s).refusal done) refl
    (eqb (loaded t (record_read s).number (asked_of (record_read s).fields) (record_read s).key).refusal done) refl
    (λ h. loads-gather k _ (position + 1) _ h) e

pub loaded-gathers : (sheet : List ℕ) → (load_all sheet).refusal ≡ done → gathered sheet ≡ gathered_to (load_all sheet).table
unfolding load_all gathered gather_on
loaded-gathers sheet e = loads-gather (length sheet) empty_table 1 sheet e
