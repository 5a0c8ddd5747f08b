-- What the calls leave in the table. Assumes nothing.
use mathlib.Core.Bool.{Bool, true, false, true≢false}
use mathlib.Core.List.{List}
use mathlib.Core.Path.{◌≡◌, refl, sym, ap, ◌∙◌}
use Prim.Native.Nat.{ℕ, ◌-◌, ◌≤◌}
use native.Mathlib.Omega.{arith}
use borrow.Author.Tests.{eqb-true, ne_eqb}
use lib.Dec.{eqb}
use lib.ListN.{length, length-set}
use lib.Seq.{get_or-set_same, get_or-set_other}
use Rattle.laws.specs.Choice.{pick}
use Rattle.laws.proofs.Cases.{and_left, and_right}
use Rattle.refusals.specs.Numbers.{done, target_filled}
use Rattle.fields.specs.declared.Asked.{Asked}
use Rattle.fields.specs.Fields.{is_slot_number, is_algorithm, is_use}
use Rattle.fields.proofs.Ranges.{between-low, between-high}
use Rattle.slots.specs.declared.Slot.{Slot}
use Rattle.slots.specs.Slots.{is_empty, is_filled, is_bad, has_bad, all_zero, nil, empty, empty_table, slot_at, with_slot}
use Rattle.rights.specs.Rights.{moved_use}
use Rattle.slot_calls.specs.Calls.{move_refusal_of, load_refusal, move_refusal, clear_refusal, answered, loaded, moved_slot, moved, cleared}
use Rattle.slots.proofs.Tables.{filled-not-empty, filled-else, filled-not-bad, good-at, good-set}
use Rattle.slot_calls.proofs.Passed.{MovePassed, load-passed, move-passed}

-- a refused call leaves the table as it is

refused-keeps : (refusal : ℕ) (before after : List Slot) → (refusal ≡ done → ⊥) → (answered refusal before after).table ≡ before
refused-keeps refusal before after refused = rw (ne_eqb refusal done refused)

pub load-refused : (table : List Slot) (number : ℕ) (a : Asked) (key : List ℕ) → (load_refusal table number a ≡ done → ⊥) → (loaded table number a key).table ≡ table
load-refused table number a key = refused-keeps (load_refusal table number a) table _

pub move-refused : (table : List Slot) (from to asked : ℕ) → (move_refusal table from to asked ≡ done → ⊥) → (moved table from to asked).table ≡ table
move-refused table from to asked = refused-keeps (move_refusal table from to asked) table _

pub clear-refused : (table : List Slot) (number : ℕ) → (clear_refusal table number ≡ done → ⊥) → (cleared table number).table ≡ table
clear-refused table number = refused-keeps (clear_refusal table number) table _

-- a table of 32 slots without a bad one stays such a table, whatever is called: 16 never comes from our own calls

pub record Good (table : List Slot) : Type 0 where
  pub size : length table ≡ 32
  pub sound : has_bad table ≡ false

good-with : (table : List Slot) (number : ℕ) (s : Slot) → Good table → is_bad s ≡ false → Good (with_slot table number s)
good-with table number s g e = record { size = length-set table (number - 1) s ∙ g.size; sound = good-set table (number - 1) s g.sound e }

-- what holds of the table before, and of the one after if the call is accepted, holds of the answer's table
either_way : (P : List Slot → Type 0) (refusal : ℕ) (before after : List Slot) → P before → (refusal ≡ done → P after) → P (answered refusal before after).table
either_way P refusal before after b a = go (eqb refusal done) refl
  where
    go : (t : Bool) → eqb refusal done ≡ t → P (pick t after before)
    go true e = a (eqb-true refusal done e)
    go false e = b

empty-good : is_bad empty ≡ false
unfolding is_bad is_filled is_empty all_zero
empty-good = refl

pub empty-table-good : Good empty_table
unfolding has_bad is_bad is_filled is_empty all_zero
empty-table-good = record { size = refl; sound = refl }

pub load-good : (table : List Slot) (number : ℕ) (a : Asked) (key : List ℕ) → Good table → Good (loaded table number a key).table
unfolding is_filled
load-good table number a key g =
    either_way Good (load_refusal table number a) table _ g
    (λ e. good-with table number _ g (filled-not-bad _ (load-passed table number a e).ranges))

pub clear-good : (table : List Slot) (number : ℕ) → Good table → Good (cleared table number).table
clear-good table number g =
    either_way Good (clear_refusal table number) table _ g (λ e. good-with table number empty g empty-good)

-- the slot that an accepted move takes, and what it becomes

module _ (table : List Slot) (from to asked : ℕ) (e : move_refusal table from to asked ≡ done) where
  passed : MovePassed table from to asked
  passed = move-passed table from to asked e

  from-filled : is_filled (slot_at table from) ≡ true
  from-filled = filled-else (slot_at table from) (good-at table (from - 1) passed.good) passed.there

  pub to-filled : is_filled (moved_slot (slot_at table from) asked) ≡ true
  unfolding is_filled
  to-filled =
      let f = (slot_at table from).fields in
      let past-algorithm = and_right (is_algorithm f.algorithm) _ from-filled in
      rw (and_left (is_algorithm f.algorithm) _ from-filled, and_left (is_use (moved_use f.usage asked)) _ passed.narrow)
      (and_right (is_use f.usage) _ past-algorithm)

pub move-good : (table : List Slot) (from to asked : ℕ) → Good table → Good (moved table from to asked).table
move-good table from to asked g =
    either_way Good (move_refusal table from to asked) table _ g
    (λ e. good-with _ from empty (good-with table to _ g (filled-not-bad _ (to-filled table from to asked e))) empty-good)

-- a filled slot is not moved to itself
pub move-to-itself : (table : List Slot) (number asked : ℕ) → has_bad table ≡ false → is_slot_number number ≡ true → is_filled (slot_at table number) ≡ true
    → move_refusal table number number asked ≡ target_filled
unfolding move_refusal_of
move-to-itself table number asked good numbered filled = rw (good, numbered, filled-not-empty (slot_at table number) filled, filled)

module _ (table : List Slot) (number : ℕ) (h : is_slot_number number ≡ true) (s : Slot) where
  low : 1 ≤ number
  low = between-low 1 number 32 h

  high : number ≤ 32
  high = between-high 1 number 32 h

  pub slot-stored : length table ≡ 32 → slot_at (with_slot table number s) number ≡ s
  slot-stored size = get_or-set_same table (number - 1) s nil (omega (arith, low, high))

  pub slot-other : (other : ℕ) → is_slot_number other ≡ true → (other ≡ number → ⊥) → slot_at (with_slot table number s) other ≡ slot_at table other
  slot-other other o ne =
      get_or-set_other table (number - 1) (other - 1) s nil (λ e. ne (omega (arith, low, between-low 1 other 32 o)))

-- an accepted move: the new slot has arrived, and the old place is empty
module _ (table : List Slot) (from to asked : ℕ) (size : length table ≡ 32) (e : move_refusal table from to asked ≡ done) where
  known : MovePassed table from to asked
  known = passed table from to asked e

  abbrev new : Slot
  new = moved_slot (slot_at table from) asked

  abbrev carried : List Slot
  carried = with_slot table to new

  not_itself : to ≡ from → ⊥
  not_itself s =
      true≢false (sym (from-filled table from to asked e) ∙ ap (λ (n : ℕ). is_filled (slot_at table n)) (sym s) ∙ known.free)

  pub move-arrives : slot_at (moved table from to asked).table to ≡ new
  move-arrives =
      rw e (slot-other carried from known.from-numbered empty to known.to-numbered not_itself ∙ slot-stored table to known.to-numbered new size)

  pub move-empties : slot_at (moved table from to asked).table from ≡ empty
  move-empties = rw e (slot-stored carried from known.from-numbered empty (length-set table (to - 1) new ∙ size))
