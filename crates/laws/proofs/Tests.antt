-- What holds of each number of a range, by one test that antt computes. Assumes nothing.
use mathlib.Core.Path.{◌≡◌, refl, subst}
use mathlib.Core.Logic.{⊎_elim}
use mathlib.Core.Bool.{Bool, true, false, ◌&&◌}
use Prim.Native.Nat.{ℕ, zero, suc, ◌+◌, ◌<◌, ◌≤◌}
use native.Mathlib.Nat.{eq-or-lt_of_le}
use native.Mathlib.Omega.{arith}
use lib.Dec.{T, eqb, eqb→eq}

-- two tests that both pass
pub pass-left : (a b : Bool) → T (a && b) → T a
pass-left true b t = tt
pass-left false b t = t

pub pass-right : (a b : Bool) → T (a && b) → T b
pass-right true b t = t
pass-right false b t = absurd t

-- the test f passes at i, i + 1, ..: n of them
abbrev pub all : (ℕ → Bool) → ℕ → ℕ → Bool
all f i zero = true
all f i (suc n) = f i && all f (suc i) n

pub between : (f : ℕ → Bool) (i n : ℕ) → T (all f i n) → (k : ℕ) → i ≤ k → k < i + n → T (f k)
between f i zero t k l h = absurd (omega arith)
between f i (suc n) t k l h =
    ⊎_elim (λ e. subst (λ (j : ℕ). T (f j)) e (pass-left (f i) (all f (suc i) n) t))
    (λ g. between f (suc i) n (pass-right (f i) (all f (suc i) n) t) k g (omega arith))
    (eq-or-lt_of_le l)

-- two functions that agree on each number from i, n of them
pub agree : (f g : ℕ → ℕ) (i n : ℕ) → T (all (λ k. eqb (f k) (g k)) i n) → (k : ℕ) → i ≤ k → k < i + n → f k ≡ g k
agree f g i n t k l h = eqb→eq (f k) (g k) (between (λ j. eqb (f j) (g j)) i n t k l h)

is_true : (t : Bool) → T t → t ≡ true
is_true true h = refl
is_true false h = absurd h

-- the test as an equation
pub holds : (f : ℕ → Bool) (i n : ℕ) → T (all f i n) → (k : ℕ) → i ≤ k → k < i + n → f k ≡ true
holds f i n t k l h = is_true (f k) (between f i n t k l h)
