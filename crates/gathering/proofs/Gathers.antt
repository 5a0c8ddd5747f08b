-- Gathering record after record. Assumes nothing.
use mathlib.Core.Path.{◌≡◌, refl, sym, ap, subst, ◌∙◌}
use mathlib.Core.Bool.{Bool, true, false, not, ◌&&◌}
use mathlib.Core.List.{List, [], ◌∷◌}
use Prim.Native.Nat.{ℕ, zero, suc, ◌≤◌, ◌<◌}
use native.Mathlib.Omega.{arith}
use lib.Dec.{eqb}
use lib.ListN.{length, drop, length-drop}
use borrow.Author.Tests.{eqb-true, eq-eqb, ne_eqb, not-true}
use Rattle.laws.specs.Choice.{pick}
use Rattle.laws.proofs.Cases.{and_left, and_right}
use Rattle.refusals.specs.Numbers.{done}
use Rattle.fields.specs.Fields.{is_slot_number}
use Rattle.slots.specs.declared.Slot.{Slot}
use Rattle.slots.specs.Slots.{is_filled, with_slot}
use Rattle.slot_calls.specs.Seen.{slot_as}
use Rattle.forms.specs.Form.{Outcome, found, wrong, read_at}
use Rattle.record_reader.specs.Record.{RecordRead, Entry, record_form, starts_form, read_answer, record_read}
use Rattle.forms.proofs.Forms.{spelt}
use Rattle.record_reader.proofs.Records.{record-means}
use Rattle.loading.proofs.Loads.{taken}
use Rattle.gathering.specs.Gathering.{Gathered, gathered_to, not_gathered, slot_read, entered, gather_within, gather_on}

-- a record that reads has the number of a slot
pub read_number : (s : List ℕ) → (record_read s).refusal ≡ done → is_slot_number (record_read s).number ≡ true
unfolding record_read
read_number s = go (read_at (record_form (starts_form s)) s 0) refl
  where
    go : (o : Outcome Entry) → read_at (record_form (starts_form s)) s 0 ≡ o → (read_answer s o).refusal ≡ done → is_slot_number (read_answer s o).number ≡ true
    go (found e used) h z =
        let r = spelt (record_form (starts_form s)) s 0 e used h in
        ((record-means (starts_form s)).only e r.text r.spells).0.slot
    go (wrong place) h z = absurd (omega arith)

-- what a record that is entered was, and what the table becomes

good-by : (t : Bool) (table : List Slot) → (pick t (gathered_to table) not_gathered).good ≡ t
good-by true table = refl
good-by false table = refl

pub record Entered (table : List Slot) (read : RecordRead) : Type 0 where
  pub reads : read.refusal ≡ done
  pub free : is_filled (slot_as table read.number) ≡ false
  pub becomes : entered table read ≡ gathered_to (with_slot table read.number (slot_read read))

pub enters : (table : List Slot) (read : RecordRead) → (entered table read).good ≡ true → Entered table read
unfolding entered
enters table read e =
    let test = sym (good-by (eqb read.refusal done && not (is_filled (slot_as table read.number))) _) ∙ e in
    record {
      reads = eqb-true read.refusal done (and_left (eqb read.refusal done) _ test);
      free = not-true _ (and_right (eqb read.refusal done) _ test);
      becomes = rw test;
    }

pub enter-free : (table : List Slot) (read : RecordRead) → read.refusal ≡ done → is_filled (slot_as table read.number) ≡ false
    → entered table read ≡ gathered_to (with_slot table read.number (slot_read read))
unfolding entered
enter-free table read e free = rw (eq-eqb read.refusal done e, free)

-- it makes no difference how many records may come, where there is one for each byte

fuel : (k m : ℕ) (table : List Slot) (s : List ℕ) → length s ≤ k → length s ≤ m → gather_within k table s ≡ gather_within m table s
unfolding gather_within
fuel zero zero table s h l = refl
fuel zero (suc m) table s h l = rw (eq-eqb (length s) 0 (omega arith))
fuel (suc k) zero table s h l = rw (eq-eqb (length s) 0 (omega arith))
fuel (suc k) (suc m) table s h l =
    ap (pick (eqb (length s) 0) (gathered_to table)) (go (entered table (record_read s)).good refl (fuel k m (entered table (record_read s)).table (drop (record_read s).used s)))
  where
    next : Gathered
    next = entered table (record_read s)

    rest : List ℕ
    rest = drop (record_read s).used s

    go : (t : Bool) → (entered table (record_read s)).good ≡ t
        → (length rest ≤ k → length rest ≤ m → gather_within k next.table rest ≡ gather_within m next.table rest)
        → pick t (gather_within k next.table rest) not_gathered ≡ pick t (gather_within m next.table rest) not_gathered
    go true e same =
        let t = taken s (enters table (record_read s) e).reads in
        let less = length-drop (record_read s).used s in
        same (omega (arith, t.some, t.within)) (omega (arith, t.some, t.within))
    go false e same = refl

-- nothing is left
pub gather-end : (table : List Slot) (s : List ℕ) → length s ≡ 0 → gather_on table s ≡ gathered_to table
unfolding gather_on gather_within
gather-end table [] e = refl
gather-end table (b ∷ s) e = absurd (omega arith)

-- one record more
module _ (table : List Slot) (s : List ℕ) (some : 0 < length s) where
  one : gather_within (suc (length s)) table s ≡ gather_on table s
  unfolding gather_on
  one = fuel (suc (length s)) (length s) table s (omega arith) (omega arith)

  pub gather-stops : (entered table (record_read s)).good ≡ false → gather_on table s ≡ not_gathered
  unfolding gather_within
  gather-stops e = sym one ∙ rw (ne_eqb (length s) 0 (λ z. omega arith), e)

  pub gather-next : (entered table (record_read s)).good ≡ true
      → gather_on table s ≡ gather_on (entered table (record_read s)).table (drop (record_read s).used s)
  unfolding gather_within gather_on
  gather-next e =
      let t = taken s (enters table (record_read s) e).reads in
      let rest = drop (record_read s).used s in
      let less = length-drop (record_read s).used s in
      sym one
      ∙ rw (ne_eqb (length s) 0 (λ z. omega arith), e)
      (fuel (length s) (length rest) (entered table (record_read s)).table rest (omega (arith, t.some, t.within)) (omega arith))

-- of a text that is not at its end, a record is read: it ends the gathering, or is entered
module _ (table : List Slot) (s : List ℕ) (some : 0 < length s) {read : RecordRead} (r : read ≡ record_read s) where
  pub reads-number : read.refusal ≡ done → is_slot_number read.number ≡ true
  reads-number = subst (λ (x : RecordRead). x.refusal ≡ done → is_slot_number x.number ≡ true) (sym r) (read_number s)

  pub stops : not_gathered ≡ entered table read → not_gathered ≡ gather_on table s
  stops e = sym (gather-stops table s some (ap (λ (g : Gathered). g.good) (sym (e ∙ ap (entered table) r))))

  module _ {next : List Slot} (e : gathered_to next ≡ entered table read) where
    good : (entered table (record_read s)).good ≡ true
    good = ap (λ (g : Gathered). g.good) (sym (e ∙ ap (entered table) r))

    pub takes : (0 < read.used) × (read.used ≤ length s)
    takes =
        let t = taken s (enters table (record_read s) good).reads in
        let used = ap (λ (x : RecordRead). x.used) r in
        (omega (arith, used, t.some), omega (arith, used, t.within))

    pub goes-on : gather_on table s ≡ gather_on next (drop read.used s)
    goes-on = gather-next table s some good ∙ (λ i. gather_on (sym (e ∙ ap (entered table) r) i).table (drop (sym r i).used s))
