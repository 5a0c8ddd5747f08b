-- Two tables to start from show the same, and hold slot by slot the same, or two keys of a chosen slot. Assumes nothing.
use mathlib.Core.Bool.{Bool, true, false, true≢false}
use mathlib.Core.List.{List, [], ◌∷◌}
use mathlib.Core.Path.{◌≡◌, refl, sym, ap, ◌∙◌}
use Prim.Native.Nat.{ℕ, zero, suc, ◌+◌}
use native.Mathlib.Nat.{add-zero, add-suc, suc-add}
use borrow.Author.Tests.{not-false}
use lib.ListN.{length, get_or}
use Rattle.slots.specs.declared.Slot.{Slot}
use Rattle.slots.specs.Slots.{is_empty, is_filled, is_bad, nil, empty_table}
use Rattle.slots.proofs.Tables.{filled-not-empty}
use Rattle.slot_calls.proofs.Left.{empty-table-good}
use Rattle.slot_calls.proofs.Alike.{seen, Alike}
use Rattle.two_runs.specs.Calls.{Origin, TwinSlots, same-slot, other-present, TwinTables, no_slot, slot, Starts}

-- a slot that is neither filled nor bad is empty
pub empty-else : (s : Slot) → is_bad s ≡ false → is_filled s ≡ false → is_empty s ≡ true
unfolding is_bad
empty-else s good not-filled = not-false (is_empty s) (rw not-filled at good)

module _ (chosen : Origin → Bool) where
  seen-twins : {number : ℕ} {s t : Slot} → TwinSlots chosen number s t → seen s ≡ seen t
  unfolding is_filled
  seen-twins (same-slot s) = refl
  seen-twins (other-present f key other filled picked) =
      λ i. record { fields = f; none = (filled-not-empty (record { fields = f; key = key }) filled ∙ sym (filled-not-empty (record { fields = f; key = other }) filled)) i }

  pub alike-twins : {number : ℕ} {a b : List Slot} → TwinTables chosen number a b → Alike a b
  alike-twins no_slot = refl
  alike-twins (slot s r) = λ i. seen-twins s i ∷ alike-twins r i

  pub twins-size : {number : ℕ} {a b : List Slot} → TwinTables chosen number a b → length b ≡ length a
  twins-size no_slot = refl
  twins-size (slot s r) = ap suc (twins-size r)

  pub twins-at : {number : ℕ} {a b : List Slot} → TwinTables chosen number a b → (i : ℕ) → TwinSlots chosen (number + i) (get_or a i nil) (get_or b i nil)
  twins-at no_slot i = same-slot nil
  twins-at {number} (slot s r) zero = rw (add-zero number) s
  twins-at {number} (slot s r) (suc i) = rw (add-suc number i, ← suc-add number i) (twins-at r i)

  -- a slot that is not filled holds one key
  pub unfilled-key : {number : ℕ} {s t : Slot} → TwinSlots chosen number s t → is_filled s ≡ false → s.key ≡ t.key
  unfilled-key (same-slot s) e = refl
  unfilled-key (other-present f key other filled picked) e = absurd (true≢false (sym filled ∙ e))

  -- a table is its own twin

  pub itself : (table : List Slot) {number : ℕ} → TwinTables chosen number table table
  itself [] = no_slot
  itself (s ∷ table) = slot (same-slot s) (itself table)

  pub empty-starts : Starts chosen empty_table empty_table
  empty-starts = record { size = refl; sound = empty-table-good.sound; twins = itself empty_table }
