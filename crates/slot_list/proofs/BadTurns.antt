-- A loop that tests the slots of a list, the first one first: what falls from one turn to the next, and what it leaves. Assumes nothing.
use mathlib.Core.Bool.{Bool, true, false, ◌&&◌, ◌||◌, not, or-false, or_assoc}
use mathlib.Core.List.{List}
use mathlib.Core.Path.{◌≡◌, sym, ap, ◌∙◌}
use Prim.Native.Nat.{ℕ, ◌+◌, ◌<◌, ◌≤◌}
use lib.ListN.{length, get_or, drop}
use Rattle.slots.specs.declared.Slot.{Slot}
use Rattle.slots.specs.Slots.{nil, is_empty, is_filled, is_bad, has_bad}
use Rattle.slots.proofs.Tables.{bad-next, bad-none}

-- a slot before i is bad, or one from i on is, where there is a bad one
abbrev pub Tested : List Slot → ℕ → Bool → Type 0
Tested ys i bad = (bad || has_bad (drop i ys)) ≡ has_bad ys

-- one slot more
pub onward : (ys : List Slot) (i : ℕ) (bad : Bool) → i < length ys → Tested ys i bad → Tested ys (i + 1) (bad || is_bad (get_or ys i nil))
onward ys i bad l so =
    or_assoc bad (is_bad (get_or ys i nil)) (has_bad (drop (i + 1) ys)) ∙ ap (λ (b : Bool). bad || b) (sym (bad-next ys i l)) ∙ so

pub all_tested : (ys : List Slot) (i : ℕ) (bad : Bool) → length ys ≤ i → Tested ys i bad → bad ≡ has_bad ys
all_tested ys i bad l so = sym (or-false bad) ∙ ap (λ (b : Bool). bad || b) (sym (bad-none ys i l)) ∙ so

-- a slot that is not filled is bad unless it is empty; one that is filled is not bad, whatever its key is

pub unfilled-bad : (bad : Bool) (s : Slot) → not (is_filled s) ≡ true → (bad || not (is_empty s)) ≡ (bad || is_bad s)
unfolding is_bad
unfilled-bad bad s h = ap (λ (b : Bool). bad || (b && not (is_empty s))) (sym h)

pub filled-kept : (bad : Bool) (s : Slot) → not (is_filled s) ≡ false → bad ≡ (bad || is_bad s)
unfolding is_bad
filled-kept bad s h = sym (or-false bad) ∙ ap (λ (b : Bool). bad || (b && not (is_empty s))) (sym h)
