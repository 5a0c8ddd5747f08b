-- What a move makes of an asked use of 0, and that nothing else about a move was changed with it. Assumes nothing.
use mathlib.Core.Bool.{Bool, true, false, ◌&&◌, ◌||◌, not, and-true, false≢true}
use mathlib.Core.List.{List}
use mathlib.Core.Logic.{◌⊎◌, inl, inr}
use mathlib.Core.Path.{◌≡◌, refl, sym, ap, ◌∙◌}
use Prim.Native.Nat.{ℕ}
use native.Mathlib.Omega.{arith}
use borrow.Author.Tests.{eqb-true, eq-eqb}
use lib.Dec.{eqb}
use lib.ListN.{length}
use Rattle.laws.specs.Choice.{pick}
use Rattle.laws.proofs.Cases.{eq-or-ne, and_left, and_right}
use Rattle.refusals.specs.Numbers.{done, slot_number_bad, slot_empty, target_filled, code_unknown, use_not_within, table_bad, refuse}
use Rattle.fields.specs.Fields.{is_slot_number, is_use}
use Rattle.fields.proofs.Ranges.{between-low, between-high}
use Rattle.slots.specs.declared.Slot.{Slot}
use Rattle.slots.specs.Slots.{is_empty, is_filled, has_bad, empty, slot_at, with_slot}
use Rattle.rights.specs.Rights.{is_asked_use, moved_use, stays_within, may_move}
use Rattle.slot_calls.specs.Calls.{move_refusal_of, move_refusal, answered, moved_slot, moved}
use Rattle.slot_calls.proofs.Passed.{move-passed}
use Rattle.slot_calls.proofs.Left.{move-arrives}

-- what 0 is allowed for

not-both : (other : Bool) (present : ℕ) → other && not (eqb present 3) ≡ true → present ≡ 3 → ⊥
not-both other present e three = false≢true (sym (ap not (eq-eqb present 3 three)) ∙ and_right other _ e)

zero-is-one-or-two : (present : ℕ) → may_move present 0 ≡ true → (present ≡ 1) ⊎ (present ≡ 2)
zero-is-one-or-two present e = go (eq-or-ne present 1)
  where
    known : is_use present ≡ true
    known = and_left (is_use present) _ (and_left (stays_within present 0) _ e)

    go : (present ≡ 1) ⊎ (present ≡ 1 → ⊥) → (present ≡ 1) ⊎ (present ≡ 2)
    go (inl one) = inl one
    go (inr other) =
        inr (omega (arith, other, not-both (stays_within present 0) present e, between-low 1 present 3 known, between-high 1 present 3 known))

three-is-asked : (present asked : ℕ) → may_move present asked ≡ true → moved_use present asked ≡ 3 → asked ≡ 3
three-is-asked present asked = go (eqb asked 0) refl
  where
    go : (zero : Bool) → eqb asked 0 ≡ zero → stays_within present asked && not (zero && eqb present 3) ≡ true → pick zero present asked ≡ 3 → asked ≡ 3
    go true z e three = absurd (not-both (stays_within present asked) present e three)
    go false z e three = three

-- of an accepted move

module _ (table : List Slot) (from to : ℕ) (size : length table ≡ 32) where
  abbrev present : ℕ
  present = (slot_at table from).fields.usage

  abbrev after : ℕ → ℕ
  after asked = (slot_at (moved table from to asked).table to).fields.usage

  after_is : (asked : ℕ) → move_refusal table from to asked ≡ done → after asked ≡ moved_use present asked
  after_is asked e = ap (λ (s : Slot). s.fields.usage) (move-arrives table from to asked size e)

  -- one that was asked 0 found use 1 or 2, and kept it
  pub zero-keeps-one-or-two : move_refusal table from to 0 ≡ done → ((present ≡ 1) ⊎ (present ≡ 2)) × (after 0 ≡ present)
  zero-keeps-one-or-two e = (zero-is-one-or-two present (move-passed table from to 0 e).allowed, after_is 0 e)

  -- the use is 3 afterwards only if 3 was asked
  pub three-only-if-asked : (asked : ℕ) → move_refusal table from to asked ≡ done → after asked ≡ 3 → asked ≡ 3
  three-only-if-asked asked e three =
      three-is-asked present asked (move-passed table from to asked e).allowed (sym (after_is asked e) ∙ three)

-- the order of refusals as it was: its last test was that the use stays within the present one

abbrev pub move_refusal_before : Bool → Slot → Slot → ℕ → ℕ → ℕ → ℕ
move_refusal_before bad slot target from to asked =
    refuse bad table_bad
    (refuse (not (is_slot_number from) || not (is_slot_number to)) slot_number_bad
    (refuse (is_empty slot) slot_empty
    (refuse (is_filled target) target_filled
    (refuse (not (is_asked_use asked)) code_unknown
    (refuse (not (stays_within slot.fields.usage asked)) use_not_within
    done)))))

-- of a slot of use 3 that is asked 0: where the move was accepted it gets 14, where it was refused the number that it got

last-rung : (a b c d : Bool)
    → let ladder : ℕ → ℕ = λ n. refuse a table_bad (refuse b slot_number_bad (refuse c slot_empty (refuse d target_filled n))) in
    ladder use_not_within ≡ pick (eqb (ladder done) done) use_not_within (ladder done)
last-rung true b c d = refl
last-rung false true c d = refl
last-rung false false true d = refl
last-rung false false false true = refl
last-rung false false false false = refl

pub both-is-asked-for : (bad : Bool) (slot target : Slot) (from to : ℕ) → slot.fields.usage ≡ 3
    → let before = move_refusal_before bad slot target from to 0 in
    move_refusal_of bad slot target from to 0 ≡ pick (eqb before done) use_not_within before
unfolding move_refusal_of
both-is-asked-for bad slot target from to three =
    let u = slot.fields.usage in
    let now : may_move u 0 ≡ false = ap (λ (n : ℕ). may_move n 0) three in
    let then : stays_within u 0 ≡ true = ap (λ (n : ℕ). stays_within n 0) three in
    rw (now, then) (last-rung bad (not (is_slot_number from) || not (is_slot_number to)) (is_empty slot) (is_filled target))

-- for every other pair of present and asked use, the refusal is what it was, and so is the table afterwards

same_test : (present asked : ℕ) → ((asked ≡ 0) × (present ≡ 3) → ⊥) → may_move present asked ≡ stays_within present asked
same_test present asked other = go (eqb asked 0) refl (eqb present 3) refl
  where
    go : (z : Bool) → eqb asked 0 ≡ z → (b : Bool) → eqb present 3 ≡ b → stays_within present asked && not (z && b) ≡ stays_within present asked
    go true z true b = absurd (other (eqb-true asked 0 z, eqb-true present 3 b))
    go true z false b = and-true (stays_within present asked)
    go false z t b = and-true (stays_within present asked)

pub others-as-before : (bad : Bool) (slot target : Slot) (from to asked : ℕ) → ((asked ≡ 0) × (slot.fields.usage ≡ 3) → ⊥)
    → move_refusal_of bad slot target from to asked ≡ move_refusal_before bad slot target from to asked
unfolding move_refusal_of
others-as-before bad slot target from to asked other = rw (same_test slot.fields.usage asked other)

pub tables-as-before : (table : List Slot) (from to asked : ℕ) → ((asked ≡ 0) × ((slot_at table from).fields.usage ≡ 3) → ⊥)
    → moved table from to asked
    ≡ answered (move_refusal_before (has_bad table) (slot_at table from) (slot_at table to) from to asked) table (with_slot (with_slot table to (moved_slot (slot_at table from) asked)) from empty)
tables-as-before table from to asked other =
    ap (λ (n : ℕ). answered n table (with_slot (with_slot table to (moved_slot (slot_at table from) asked)) from empty))
    (others-as-before (has_bad table) (slot_at table from) (slot_at table to) from to asked other)
