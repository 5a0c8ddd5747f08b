-- Loading record after record. Assumes nothing.
use mathlib.Core.Path.{◌≡◌, refl, sym, ap, subst, ◌∙◌}
use mathlib.Core.Logic.{◌⊎◌, inl, inr, ⊎_elim}
use mathlib.Core.Bool.{Bool, true, false, not}
use mathlib.Core.List.{List}
use Prim.Native.Nat.{ℕ, zero, suc, ◌+◌, ◌-◌, ◌<◌, ◌≤◌}
use native.Mathlib.Omega.{arith}
use lib.Dec.{eqb}
use lib.ListN.{length, drop, length-append}
use borrow.Author.Tests.{eqb-false, eq-eqb, ne_eqb, not-true}
use Rattle.laws.specs.Choice.{pick}
use Rattle.laws.proofs.Cases.{pick-cases}
use Rattle.refusals.specs.Numbers.{done, record_text_bad}
use Rattle.fields.specs.declared.Asked.{Asked}
use Rattle.slots.specs.declared.Slot.{Slot}
use Rattle.slot_calls.specs.Answers.{Changed}
use Rattle.fields.specs.Fields.{asked_of}
use Rattle.slot_calls.specs.Calls.{loaded}
use Rattle.record_text.specs.Text.{lines_text, form_text}
use Rattle.forms.specs.Form.{Outcome, found, wrong, read_at}
use Rattle.record_reader.specs.Record.{RecordRead, Entry, record_form, starts_form, read_answer, record_read}
use Rattle.forms.proofs.Forms.{spelt}
use Rattle.record_reader.proofs.Records.{record-means}
use Rattle.loading.specs.Loading.{Loaded, filled, refused, load_within, load_all}

-- a record that reads takes some bytes, and no more than there are
pub record Taken (s : List ℕ) (used : ℕ) : Type 0 where
  pub some : 0 < used
  pub within : used ≤ length s

text-some : (two : Bool) (e : Entry) → 0 < length (form_text two e.number e.fields e.key)
unfolding form_text lines_text
text-some true e = omega arith
text-some false e = omega arith

pub taken : (s : List ℕ) → (record_read s).refusal ≡ done → Taken s (record_read s).used
unfolding record_read
taken s = go (read_at (record_form (starts_form s)) s 0) refl
  where
    go : (o : Outcome Entry) → read_at (record_form (starts_form s)) s 0 ≡ o → (read_answer s o).refusal ≡ done → Taken s (read_answer s o).used
    go (found e used) h z =
        let r = spelt (record_form (starts_form s)) s 0 e used h in
        let t = ap length ((record-means (starts_form s)).only e r.text r.spells).1 in
        record {
          some = omega (arith, r.after, text-some (starts_form s) e);
          within = omega (arith, r.after, simp length-append at (ap length r.splits));
        }
    go (wrong place) h z = absurd (omega arith)

pub takes : (s : List ℕ) {read : RecordRead} → read ≡ record_read s → read.refusal ≡ done → Taken s read.used
takes s r good = subst (λ (x : RecordRead). Taken s x.used) (sym r) (taken s (ap (λ (x : RecordRead). x.refusal) (sym r) ∙ good))

-- a text that is not read is refused with 15
text-bad : (s : List ℕ) → ((record_read s).refusal ≡ done) ⊎ ((record_read s).refusal ≡ record_text_bad)
unfolding record_read
text-bad s = go (read_at (record_form (starts_form s)) s 0)
  where
    go : (o : Outcome Entry) → ((read_answer s o).refusal ≡ done) ⊎ ((read_answer s o).refusal ≡ record_text_bad)
    go (found e used) = inl refl
    go (wrong place) = inr refl

-- a sheet that is not refused with 15 has neither line nor column
abbrev Elsewhere : Loaded → Type 0
Elsewhere l = (l.refusal ≡ record_text_bad) ⊎ ((l.line ≡ 0) × (l.column ≡ 0))

pub elsewhere : (k : ℕ) (table : List Slot) (position : ℕ) (s : List ℕ) → Elsewhere (load_within k table position s)
unfolding load_within
elsewhere zero table position s = inr (refl, refl)
elsewhere (suc k) table position s =
    let read = record_read s in
    let change = loaded table read.number (asked_of read.fields) read.key in
    pick-cases Elsewhere (eqb (length s) 0) (λ _. inr (refl, refl))
    (λ _. pick-cases Elsewhere (not (eqb read.refusal done))
    (λ n. inl (⊎_elim (λ e. absurd (eqb-false read.refusal done (not-true _ n) e)) (λ e. e) (text-bad s)))
    (λ _. pick-cases Elsewhere (not (eqb change.refusal done)) (λ _. inr (refl, refl))
    (λ _. elsewhere k change.table (position + 1) (drop read.used s))))

-- nothing is left
pub load-end : (k : ℕ) (table : List Slot) (position : ℕ) (s : List ℕ) → length s ≡ 0 → load_within k table position s ≡ filled table
unfolding load_within
load-end zero table position s e = refl
load-end (suc k) table position s e = rw (eq-eqb (length s) 0 e)

-- One record more: what is read, and what loading it answers.
module _ (k : ℕ) (table : List Slot) (position : ℕ) (s : List ℕ) where
  abbrev after : RecordRead → Changed → Loaded
  after read change =
      pick (eqb (length s) 0) (filled table)
      (pick (not (eqb read.refusal done)) (refused read.refusal position read.line read.column)
      (pick (not (eqb change.refusal done)) (refused change.refusal position 0 0)
      (load_within k change.table (position + 1) (drop read.used s))))

  module _ (some : 0 < length s) {read : RecordRead} (r : read ≡ record_read s) where
    one : load_within (suc k) table position s ≡ after read (loaded table read.number (asked_of read.fields) read.key)
    unfolding load_within
    one = ap (λ x. after x (loaded table x.number (asked_of x.fields) x.key)) (sym r)

    filled-not : eqb (length s) 0 ≡ false
    filled-not = ne_eqb (length s) 0 (λ z. omega arith)

    pub text-refused : (read.refusal ≡ done → ⊥) → load_within (suc k) table position s ≡ refused read.refusal position read.line read.column
    text-refused n = one ∙ rw (filled-not, ne_eqb read.refusal done n)

    module _ (good : read.refusal ≡ done) {asked : Asked} (a : asked ≡ asked_of read.fields)
        {change : Changed} (c : change ≡ loaded table read.number asked read.key) where
      both : load_within (suc k) table position s ≡ after read change
      both = one ∙ ap (λ x. after read (loaded table read.number x read.key)) (sym a) ∙ ap (after read) (sym c)

      pub load-refused : (change.refusal ≡ done → ⊥) → load_within (suc k) table position s ≡ refused change.refusal position 0 0
      load-refused n = both ∙ rw (filled-not, eq-eqb read.refusal done good, ne_eqb change.refusal done n)

      pub load-next : change.refusal ≡ done → load_within (suc k) table position s ≡ load_within k change.table (position + 1) (drop read.used s)
      load-next e = both ∙ rw (filled-not, eq-eqb read.refusal done good, eq-eqb change.refusal done e)

-- of a sheet, a text is left that is not at its end: there is a record more for each of its bytes
pub one-more : (sheet rest : List ℕ) (position : ℕ) (table : List Slot)
    → 0 < length rest → position + length rest ≤ length sheet + 1 → load_all sheet ≡ load_within (length sheet + 1 - position) table position rest
    → load_all sheet ≡ load_within (suc (length sheet - position)) table position rest
one-more sheet rest position table some h e =
    let z : length sheet + 1 - position ≡ suc (length sheet - position) = omega arith in
    e ∙ ap (λ (n : ℕ). load_within n table position rest) z
