-- The records of a table stand for its filled slots, no number twice, and their text reads as these records. Assumes nothing.
use mathlib.Core.Path.{◌≡◌, refl, sym, ap, subst, ◌∙◌}
use mathlib.Core.Bool.{Bool, true, false}
use mathlib.Core.Logic.{inl, inr}
use mathlib.Core.List.{List, [], ◌∷◌}
use Prim.Native.Nat.{ℕ, zero, suc, ◌+◌, ◌-◌, ◌≤◌, ◌<◌}
use native.Mathlib.Omega.{arith}
use lib.ListN.{length, get_or}
use borrow.Author.Tests.{le-leb}
use Rattle.laws.specs.Choice.{pick}
use Rattle.laws.proofs.Cases.{and_left, and_right, pick-cases}
use Rattle.fields.specs.Fields.{is_slot_number, is_algorithm, is_use, is_side, is_place, asked_of}
use Rattle.fields.proofs.Ranges.{between-low, between-high, mcc-high, mnc-high}
use Rattle.slots.specs.declared.Slot.{Slot}
use Rattle.slots.specs.Slots.{is_filled, nil, slot_at}
use Rattle.record_text.specs.Text.{Good}
use Rattle.record_reader.specs.Record.{Entry}
use Rattle.conversions.specs.Conforms.{In, Apart, Reads}
use Rattle.kept_rights.specs.Left.{entry_of, entries_from, entries_of, entries_text, OfKind}

-- a record of a list of slots is that of a filled one, and each filled one's is there

record Stored (number : ℕ) (slots : List Slot) (e : Entry) : Type 0 where
  place : ℕ
  within : place < length slots
  filled : is_filled (get_or slots place nil) ≡ true
  is : e ≡ entry_of (number + place) (get_or slots place nil)

-- one slot further on
stored-later : (number : ℕ) (s : Slot) (slots : List Slot) (e : Entry) → Stored (suc number) slots e → Stored number (s ∷ slots) e
stored-later number s slots e r = record {
  place = suc r.place;
  within = omega (arith, r.within);
  filled = r.filled;
  is = r.is ∙ ap (λ (n : ℕ). entry_of n (get_or slots r.place nil)) {x = suc number + r.place} {y = number + suc r.place} (omega arith);
}

stored : (number : ℕ) (slots : List Slot) (e : Entry) → In e (entries_from number slots) → Stored number slots e
unfolding entries_from
stored number [] e m = absurd m
stored number (s ∷ slots) e m = go (is_filled s) refl (λ n. stored-later number s slots e (stored (suc number) slots e n)) m
  where
    go : (t : Bool) → is_filled s ≡ t → (In e (entries_from (suc number) slots) → Stored number (s ∷ slots) e)
        → In e (pick t (entry_of number s ∷ entries_from (suc number) slots) (entries_from (suc number) slots)) → Stored number (s ∷ slots) e
    go true h later (inl p) =
        record { place = 0; within = omega arith; filled = h; is = p ∙ ap (λ (n : ℕ). entry_of n s) {x = number} {y = number + 0} (omega arith) }
    go true h later (inr m) = later m
    go false h later m = later m

listed : (number : ℕ) (slots : List Slot) (i : ℕ) → i < length slots → is_filled (get_or slots i nil) ≡ true
    → In (entry_of (number + i) (get_or slots i nil)) (entries_from number slots)
unfolding entries_from
listed number [] i h f = absurd (omega arith)
listed number (s ∷ slots) zero h f = rw f (inl (ap (λ (n : ℕ). entry_of n s) {x = number + 0} {y = number} (omega arith)))
listed number (s ∷ slots) (suc i) h f =
    let later : In (entry_of (number + suc i) (get_or slots i nil)) (entries_from (suc number) slots) =
    subst (λ (n : ℕ). In (entry_of n (get_or slots i nil)) (entries_from (suc number) slots)) {x = suc number + i} {y = number + suc i} (omega arith)
    (listed (suc number) slots i (omega arith) f) in
    pick-cases (In (entry_of (number + suc i) (get_or slots i nil))) (is_filled s) (λ _. inr later) (λ _. later)

-- numbers rise, so none stands twice
pub records-once : (number : ℕ) (slots : List Slot) → Apart (λ (e : Entry). e.number) (entries_from number slots)
unfolding entries_from
records-once number [] = tt
records-once number (s ∷ slots) =
    let later = records-once (suc number) slots in
    pick-cases (Apart (λ (e : Entry). e.number)) (is_filled s) (λ _. (above, later)) (λ _. later)
  where
    above : (e : Entry) → In e (entries_from (suc number) slots) → e.number ≡ number → ⊥
    above e m p = let r = stored (suc number) slots e m in omega (arith, p, ap (λ (x : Entry). x.number) r.is)

-- of a table

pub record OfTable (table : List Slot) (e : Entry) : Type 0 where
  pub numbered : is_slot_number e.number ≡ true
  pub filled : is_filled (slot_at table e.number) ≡ true
  pub is : e ≡ entry_of e.number (slot_at table e.number)

module _ (table : List Slot) (size : length table ≡ 32) where
  pub of-table : (e : Entry) → In e (entries_of table) → OfTable table e
  of-table e m =
      let r = stored 1 table e m in
      let n : e.number ≡ 1 + r.place = ap (λ (x : Entry). x.number) r.is in
      let i : r.place ≡ e.number - 1 = omega arith in
      let low : 1 ≤ e.number = omega arith in
      let high : e.number ≤ 32 = omega (arith, r.within) in
      record {
        numbered = rw (le-leb 1 e.number low, le-leb e.number 32 high);
        filled = subst (λ (k : ℕ). is_filled (get_or table k nil) ≡ true) i r.filled;
        is = r.is ∙ (λ j. entry_of (sym n j) (get_or table (i j) nil));
      }

  pub in_table : (number : ℕ) → is_slot_number number ≡ true → is_filled (slot_at table number) ≡ true → In (entry_of number (slot_at table number)) (entries_of table)
  in_table number h f =
      let low = between-low 1 number 32 h in
      let high = between-high 1 number 32 h in
      subst (λ (n : ℕ). In (entry_of n (slot_at table number)) (entries_of table)) {x = 1 + (number - 1)} {y = number} (omega arith)
      (listed 1 table (number - 1) (omega arith) f)

-- a filled slot's record is good

filled-good : (number : ℕ) (s : Slot) → is_slot_number number ≡ true → is_filled s ≡ true → OfKind s → Good true number s.fields s.key
unfolding is_filled
filled-good number s numbered filled kind =
    let f = s.fields in
    let uses = and_right (is_algorithm f.algorithm) _ filled in
    let sides = and_right (is_use f.usage) _ uses in
    let places = and_right (is_side f.side) _ sides in
    record {
      slot = numbered;
      version = kind.version;
      algorithm = and_left (is_algorithm f.algorithm) _ filled;
      usage = and_left (is_use f.usage) _ uses;
      side = and_left (is_side f.side) _ sides;
      place = and_left (is_place f.place) _ places;
      mcc = mcc-high (asked_of f) filled;
      mnc = mnc-high (asked_of f) filled;
      size = kind.size;
      bytes = kind.bytes;
    }

pub entry-good : (table : List Slot) (e : Entry) → OfTable table e → OfKind (slot_at table e.number) → Good true e.number e.fields e.key
entry-good table e t kind =
    subst (λ (x : Entry). Good true x.number x.fields x.key) (sym t.is)
    (filled-good e.number (slot_at table e.number) t.numbered t.filled kind)

-- and the text of good records reads as them
pub text-reads : (es : List Entry) → ((e : Entry) → In e es → Good true e.number e.fields e.key) → Reads (entries_text es) es
unfolding entries_text
text-reads [] good = refl
text-reads (e ∷ es) good =
    record { two = true; good = good e (inl refl); rest = entries_text es; is = refl; then = text-reads es (λ x m. good x (inr m)) }
