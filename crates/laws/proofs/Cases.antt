-- Case distinctions on numbers and on tests. Assumes nothing.
use mathlib.Core.Path.{◌≡◌, refl, sym, ◌∙◌}
use mathlib.Core.Logic.{◌⊎◌, inl, inr}
use mathlib.Core.Bool.{Bool, true, false, true≢false, false≢true, ◌&&◌, ◌||◌, not}
use Prim.Native.Nat.{ℕ, zero, suc, ◌<◌, ◌≤◌}
use native.Mathlib.Omega.{arith}
use lib.Dec.{T, ltb, eqb}
use borrow.Author.Tests.{ltb-true, ltb-false, eqb-true, eqb-false, lt-ltb, le-ltb}
use Rattle.laws.specs.Choice.{pick}

pub lt-or-le : (a b : ℕ) → (a < b) ⊎ (b ≤ a)
lt-or-le a b = go (ltb a b) refl
  where
    go : (t : Bool) → ltb a b ≡ t → (a < b) ⊎ (b ≤ a)
    go true e = inl (ltb-true a b e)
    go false e = inr (ltb-false a b e)

pub eq-or-ne : (a b : ℕ) → (a ≡ b) ⊎ (a ≡ b → ⊥)
eq-or-ne a b = go (eqb a b) refl
  where
    go : (t : Bool) → eqb a b ≡ t → (a ≡ b) ⊎ (a ≡ b → ⊥)
    go true e = inl (eqb-true a b e)
    go false e = inr (eqb-false a b e)

-- what holds of 0 to 7 holds of each number below eight
pub below-eight : (P : ℕ → Type 0) → P 0 → P 1 → P 2 → P 3 → P 4 → P 5 → P 6 → P 7 → (t : ℕ) → t < 8 → P t
below-eight P a b c d e f g h zero l = a
below-eight P a b c d e f g h (suc zero) l = b
below-eight P a b c d e f g h (suc (suc zero)) l = c
below-eight P a b c d e f g h (suc (suc (suc zero))) l = d
below-eight P a b c d e f g h (suc (suc (suc (suc zero)))) l = e
below-eight P a b c d e f g h (suc (suc (suc (suc (suc zero))))) l = f
below-eight P a b c d e f g h (suc (suc (suc (suc (suc (suc zero)))))) l = g
below-eight P a b c d e f g h (suc (suc (suc (suc (suc (suc (suc zero))))))) l = h
below-eight P a b c d e f g h (suc (suc (suc (suc (suc (suc (suc (suc t)))))))) l = absurd (omega arith)

-- two tests that both hold
pub and_left : (a b : Bool) → a && b ≡ true → a ≡ true
and_left true b e = refl
and_left false b e = e

pub and_right : (a b : Bool) → a && b ≡ true → b ≡ true
and_right true b e = e
and_right false b e = absurd (false≢true e)

-- two tests of numbers that hold together are equal
pub ltb-same : (a b c d : ℕ) → (a < b → c < d) → (b ≤ a → d ≤ c) → ltb a b ≡ ltb c d
ltb-same a b c d f g = go (lt-or-le a b)
  where
    go : (a < b) ⊎ (b ≤ a) → ltb a b ≡ ltb c d
    go (inl h) = lt-ltb a b h ∙ sym (lt-ltb c d (f h))
    go (inr h) = le-ltb a b h ∙ sym (le-ltb c d (g h))

-- neither of two tests holds
pub neither : (a b : Bool) → (a || b) ≡ false → (a ≡ false) × (b ≡ false)
neither true b e = absurd (true≢false e)
neither false b e = (refl, e)

-- what holds of either choice under its test holds of what is picked
pub pick-cases : {A : Type 0} (P : A → Type 0) (t : Bool) {x y : A} → (t ≡ true → P x) → (t ≡ false → P y) → P (pick t x y)
pick-cases P true p q = p refl
pick-cases P false p q = q refl

-- two values that are picked by one test
pub pick-both : {A B : Type 0} (R : A → B → Type 0) (t : Bool) {x y : A} {z w : B} → R x z → R y w → R (pick t x y) (pick t z w)
pick-both R true p q = p
pick-both R false p q = q

-- what is picked is not the first choice
pub pick-else : {A : Type 0} (t : Bool) {x y z : A} → pick t x y ≡ z → (x ≡ z → ⊥) → (t ≡ false) × (y ≡ z)
pick-else true e n = absurd (n e)
pick-else false e n = (refl, e)

-- a choice that gives 0 did not take a number above 0
pub unpicked : (t : Bool) (n later : ℕ) → 0 < n → pick t n later ≡ 0 → (t ≡ false) × (later ≡ 0)
unpicked t n later h e = pick-else t e (λ z. omega arith)

-- the same where the number is taken unless it is 0 itself
pub unpicked-own : (n later : ℕ) → pick (not (eqb n 0)) n later ≡ 0 → (eqb n 0 ≡ true) × (later ≡ 0)
unpicked-own n later e = go (eqb n 0) refl e
  where
    go : (t : Bool) → eqb n 0 ≡ t → pick (not t) n later ≡ 0 → (t ≡ true) × (later ≡ 0)
    go true q e = (refl, e)
    go false q e = absurd (eqb-false n 0 q e)

-- the choice by a test that an early return made
pub pick-taken : {A : Type 0} (t : Bool) (a b : A) → not t ≡ true → pick t a b ≡ b
pick-taken true a b e = absurd (false≢true e)
pick-taken false a b e = refl

pub pick-left : {A : Type 0} (t : Bool) (a b : A) → not t ≡ false → pick t a b ≡ a
pick-left true a b e = refl
pick-left false a b e = absurd (true≢false e)

-- the choice under a test that holds, and under one that does not
pub pick_yes : {A : Type 0} (t : Bool) (x y : A) → T t → x ≡ pick t x y
pick_yes true x y h = refl
pick_yes false x y h = absurd h

pub pick_no : {A : Type 0} (t : Bool) (x y : A) → T (not t) → y ≡ pick t x y
pick_no true x y h = absurd h
pick_no false x y h = refl
