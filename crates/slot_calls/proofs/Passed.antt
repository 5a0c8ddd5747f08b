-- What holds of a call that is not refused: of what it saw, and of its table. Assumes nothing.
use mathlib.Core.Bool.{Bool, true, false, ◌||◌, not, true≢false}
use mathlib.Core.List.{List}
use mathlib.Core.Path.{◌≡◌, refl, ◌∙◌}
use Prim.Native.Nat.{ℕ}
use borrow.Author.Tests.{not-false}
use lib.Dec.{lit<}
use Rattle.laws.proofs.Cases.{and_left, unpicked, unpicked-own}
use Rattle.refusals.specs.Numbers.{done}
use Rattle.fields.specs.declared.Asked.{Asked}
use Rattle.fields.specs.Fields.{is_slot_number, is_algorithm, out_of_service, rights_refusal, all_in_range}
use Rattle.slots.specs.declared.Slot.{Slot}
use Rattle.slots.specs.Slots.{is_empty, is_filled, has_bad, slot_at}
use Rattle.rights.specs.Rights.{is_asked_use, stays_within, may_move}
use Rattle.slot_calls.specs.Calls.{load_refusal_of, move_refusal_of, slot_refusal_of, clear_refusal_of, load_refusal, move_refusal, clear_refusal}
use Rattle.slots.proofs.Tables.{in-range}

pub record LoadPassedOf (bad : Bool) (slot : Slot) (number : ℕ) (a : Asked) : Type 0 where
  pub good : bad ≡ false
  pub numbered : is_slot_number number ≡ true
  pub serving : out_of_service a.algorithm ≡ false
  pub ranges : all_in_range a ≡ true
  pub free : is_filled slot ≡ false

pub load-passed-of : (bad : Bool) (slot : Slot) (number : ℕ) (a : Asked) → load_refusal_of bad slot number a ≡ done → LoadPassedOf bad slot number a
unfolding load_refusal_of
load-passed-of bad slot number a e =
    let good = unpicked bad _ _ (lit< tt) e in
    let numbered = unpicked (not (is_slot_number number)) _ _ (lit< tt) good.1 in
    let known = unpicked (not (is_algorithm a.algorithm)) _ _ (lit< tt) numbered.1 in
    let serving = unpicked (out_of_service a.algorithm) _ _ (lit< tt) known.1 in
    let right = unpicked-own (rights_refusal a) _ serving.1 in
    let free = unpicked (is_filled slot) _ _ (lit< tt) right.1 in
    record {
      good = good.0;
      numbered = not-false (is_slot_number number) numbered.0;
      serving = serving.0;
      ranges = in-range a ∙ rw (not-false (is_algorithm a.algorithm) known.0, right.0);
      free = free.0;
    }

pub record MovePassedOf (bad : Bool) (slot target : Slot) (from to asked : ℕ) : Type 0 where
  pub good : bad ≡ false
  pub from-numbered : is_slot_number from ≡ true
  pub to-numbered : is_slot_number to ≡ true
  pub there : is_empty slot ≡ false
  pub free : is_filled target ≡ false
  pub code : is_asked_use asked ≡ true
  pub allowed : may_move slot.fields.usage asked ≡ true
  pub narrow : stays_within slot.fields.usage asked ≡ true

both-good : (a b : Bool) → not a || not b ≡ false → (a ≡ true) × (b ≡ true)
both-good true b e = (refl, not-false b e)
both-good false b e = absurd (true≢false e)

pub move-passed-of : (bad : Bool) (slot target : Slot) (from to asked : ℕ) → move_refusal_of bad slot target from to asked ≡ done
    → MovePassedOf bad slot target from to asked
unfolding move_refusal_of
move-passed-of bad slot target from to asked e =
    let good = unpicked bad _ _ (lit< tt) e in
    let numbered = unpicked (not (is_slot_number from) || not (is_slot_number to)) _ _ (lit< tt) good.1 in
    let there = unpicked (is_empty slot) _ _ (lit< tt) numbered.1 in
    let free = unpicked (is_filled target) _ _ (lit< tt) there.1 in
    let code = unpicked (not (is_asked_use asked)) _ _ (lit< tt) free.1 in
    let may = unpicked (not (may_move slot.fields.usage asked)) _ _ (lit< tt) code.1 in
    let allowed = not-false (may_move slot.fields.usage asked) may.0 in
    let numbers = both-good (is_slot_number from) (is_slot_number to) numbered.0 in
    record {
      good = good.0;
      from-numbered = numbers.0;
      to-numbered = numbers.1;
      there = there.0;
      free = free.0;
      code = not-false (is_asked_use asked) code.0;
      allowed = allowed;
      narrow = and_left (stays_within slot.fields.usage asked) _ allowed;
    }

pub record SlotPassedOf (slot : Slot) (number : ℕ) : Type 0 where
  pub numbered : is_slot_number number ≡ true
  pub there : is_empty slot ≡ false

pub slot-passed-of : (slot : Slot) (number : ℕ) → slot_refusal_of slot number ≡ done → SlotPassedOf slot number
unfolding slot_refusal_of
slot-passed-of slot number e =
    let numbered = unpicked (not (is_slot_number number)) _ _ (lit< tt) e in
    let there = unpicked (is_empty slot) _ _ (lit< tt) numbered.1 in
    record { numbered = not-false (is_slot_number number) numbered.0; there = there.0 }

pub record ClearPassedOf (bad : Bool) (s : Slot) (number : ℕ) : Type 0 where
  pub good : bad ≡ false
  pub slot : SlotPassedOf s number

pub clear-passed-of : (bad : Bool) (slot : Slot) (number : ℕ) → clear_refusal_of bad slot number ≡ done → ClearPassedOf bad slot number
unfolding clear_refusal_of
clear-passed-of bad slot number e =
    let good = unpicked bad _ _ (lit< tt) e in
    record { good = good.0; slot = slot-passed-of slot number good.1 }

-- the same of a table

abbrev pub LoadPassed : List Slot → ℕ → Asked → Type 0
LoadPassed table number a = LoadPassedOf (has_bad table) (slot_at table number) number a

pub load-passed : (table : List Slot) (number : ℕ) (a : Asked) → load_refusal table number a ≡ done → LoadPassed table number a
load-passed table number a e = load-passed-of (has_bad table) (slot_at table number) number a e

abbrev pub MovePassed : List Slot → ℕ → ℕ → ℕ → Type 0
MovePassed table from to asked = MovePassedOf (has_bad table) (slot_at table from) (slot_at table to) from to asked

pub move-passed : (table : List Slot) (from to asked : ℕ) → move_refusal table from to asked ≡ done → MovePassed table from to asked
move-passed table from to asked e = move-passed-of (has_bad table) (slot_at table from) (slot_at table to) from to asked e

abbrev pub SlotPassed : List Slot → ℕ → Type 0
SlotPassed table number = SlotPassedOf (slot_at table number) number

abbrev pub ClearPassed : List Slot → ℕ → Type 0
ClearPassed table number = ClearPassedOf (has_bad table) (slot_at table number) number

pub clear-passed : (table : List Slot) (number : ℕ) → clear_refusal table number ≡ done → ClearPassed table number
clear-passed table number e = clear-passed-of (has_bad table) (slot_at table number) number e
