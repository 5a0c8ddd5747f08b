-- Move, clear and read do not look at the algorithm of a slot (document 02, [9]: a slot with TEA6 "can be read, moved and cleared"): they answer the
-- same on two lists of slots in which each is seen alike, and what is seen of a slot is the same with every algorithm. Assumes nothing.
use mathlib.Core.Path.{◌≡◌, refl, sym, ap, ◌∙◌}
use mathlib.Core.Bool.{Bool, true, false, ◌&&◌, ◌||◌, not, and-false}
use mathlib.Core.List.{List, [], ◌∷◌, map}
use Prim.Native.Nat.{ℕ, ◌-◌}
use native.Mathlib.Omega.{arith}
use borrow.Author.Tests.{ne_eqb, eqb-true}
use lib.Dec.{eqb}
use lib.ListN.{length, get_or, get_or-map, length-map}
use Rattle.laws.specs.Choice.{pick}
use Rattle.refusals.specs.Numbers.{done}
use Rattle.fields.specs.Fields.{is_algorithm, no_fields}
use Rattle.fields.proofs.Ranges.{between-low}
use Rattle.slots.specs.declared.Slot.{Slot}
use Rattle.slot_calls.specs.Answers.{Shown}
use Rattle.slots.specs.Slots.{is_empty, is_filled, is_bad, has_bad, nil, slot_at}
use Rattle.slot_calls.specs.Calls.{move_refusal_of, slot_refusal_of, clear_refusal_of, shown_of}
use Rattle.slot_list.specs.List.{is_no_table}
use Rattle.card.specs.Table.{moved_in, cleared_in, shown_in}
use Rattle.demands.specs.Before.{with_algorithm}

-- what they see of a slot
pub record Sight : Type 0 where
  pub filled : Bool
  pub none : Bool
  pub usage : ℕ

abbrev pub sight : Slot → Sight
sight s = record { filled = is_filled s; none = is_empty s; usage = s.fields.usage }

abbrev pub SeenAlike : List Slot → List Slot → Type 0
SeenAlike a b = map sight a ≡ map sight b

-- a slot with an algorithm is not empty
algorithm-not-empty : (s : Slot) (x : ℕ) → is_algorithm x ≡ true → is_empty (with_algorithm s x) ≡ false
unfolding is_empty
algorithm-not-empty s x known =
    let low = between-low 5 x 7 known in
    rw (ne_eqb x 0 (λ z. omega arith), and-false (eqb s.fields.version 0 && eqb s.fields.mcc 0 && eqb s.fields.mnc 0))

pub any-algorithm : (s : Slot) (x y : ℕ) → is_algorithm x ≡ true → is_algorithm y ≡ true → sight (with_algorithm s x) ≡ sight (with_algorithm s y)
unfolding is_filled
any-algorithm s x y e f = rw (algorithm-not-empty s x e, algorithm-not-empty s y f, e, f)

-- a read is refused as a clear is
shown-refusal : (bad : Bool) (s : Slot) (number : ℕ) → (shown_of bad s number).refusal ≡ clear_refusal_of bad s number
shown-refusal bad s number = go (eqb (clear_refusal_of bad s number) done) refl
  where
    all : Shown
    all = record { refusal = done; number = number; fields = s.fields }

    nothing : Shown
    nothing = record { refusal = clear_refusal_of bad s number; number = 0; fields = no_fields }

    go : (b : Bool) → eqb (clear_refusal_of bad s number) done ≡ b → (pick b all nothing).refusal ≡ clear_refusal_of bad s number
    go true e = sym (eqb-true _ _ e)
    go false e = refl

-- lists in which each slot is seen alike

bad_seen : List Sight → Bool
bad_seen [] = false
bad_seen (v ∷ l) = not v.filled && not v.none || bad_seen l

bad-seen : (t : List Slot) → has_bad t ≡ bad_seen (map sight t)
unfolding has_bad is_bad bad_seen
bad-seen [] = refl
bad-seen (s ∷ t) = ap (λ (b : Bool). is_bad s || b) (bad-seen t)

module _ (a b : List Slot) (alike : SeenAlike a b) where
  same_size : length a ≡ length b
  same_size = sym (length-map a sight) ∙ ap length alike ∙ length-map b sight

  same-table : is_no_table a ≡ is_no_table b
  same-table = rw (same_size, bad-seen a, alike, bad-seen b)

  same-sight : (number : ℕ) → sight (slot_at a number) ≡ sight (slot_at b number)
  same-sight number =
      sym (get_or-map sight a (number - 1) nil) ∙ ap (λ (l : List Sight). get_or l (number - 1) (sight nil)) alike ∙ get_or-map sight b (number - 1) nil

  same-empty : (number : ℕ) → is_empty (slot_at a number) ≡ is_empty (slot_at b number)
  same-empty number = ap (λ (v : Sight). v.none) (same-sight number)

  pub move-sees : (from to asked : ℕ) → (moved_in a from to asked).refusal ≡ (moved_in b from to asked).refusal
  unfolding move_refusal_of
  move-sees from to asked =
      rw (same-table, same-empty from, ap (λ (v : Sight). v.filled) (same-sight to), ap (λ (v : Sight). v.usage) (same-sight from))

  pub clear-sees : (number : ℕ) → (cleared_in a number).refusal ≡ (cleared_in b number).refusal
  unfolding clear_refusal_of slot_refusal_of
  clear-sees number = rw (same-table, same-empty number)

  pub read-sees : (number : ℕ) → (shown_in a number).refusal ≡ (shown_in b number).refusal
  read-sees number = shown-refusal _ _ number ∙ clear-sees number ∙ sym (shown-refusal _ _ number)
