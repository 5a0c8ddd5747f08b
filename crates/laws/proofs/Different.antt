-- The entries of a list that are all different, by one test that antt computes. Assumes nothing.
use mathlib.Core.Path.{◌≡◌, refl, sym, ap}
use mathlib.Core.Bool.{Bool, true, false, ◌&&◌, ◌||◌, not}
use mathlib.Core.List.{List, [], ◌∷◌}
use Prim.Native.Nat.{ℕ, zero, suc, ◌<◌}
use native.Mathlib.Nat.{le_of_suc-le-suc, not-suc-le-zero}
use lib.Dec.{T, eqb, eqb_refl}
use lib.ListN.{length, get_or}
use Rattle.laws.proofs.Tests.{pass-left, pass-right}

-- x stands in the list
abbrev pub among : ℕ → List ℕ → Bool
among x [] = false
among x (y ∷ ys) = eqb x y || among x ys

-- no value stands twice
abbrev pub different : List ℕ → Bool
different [] = true
different (x ∷ xs) = not (among x xs) && different xs

or_left : (a b : Bool) → T a → T (a || b)
or_left true b t = tt
or_left false b t = absurd t

or_right : (a b : Bool) → T b → T (a || b)
or_right true b t = tt
or_right false b t = t

not-both : (a : Bool) → T (not a) → T a → ⊥
not-both true n t = n
not-both false n t = t

-- an entry stands in the list
stands : (x : ℕ) (l : List ℕ) (k : ℕ) → k < length l → x ≡ get_or l k 0 → T (among x l)
stands x [] k h e = absurd (not-suc-le-zero h)
stands x (y ∷ ys) zero h e = or_left (eqb x y) (among x ys) (rw e (eqb_refl y))
stands x (y ∷ ys) (suc k) h e = or_right (eqb x y) (among x ys) (stands x ys k (le_of_suc-le-suc h) e)

-- two places with the same entry are the same place
pub different-at : (l : List ℕ) → T (different l) → (i k : ℕ) → i < length l → k < length l → get_or l i 0 ≡ get_or l k 0 → i ≡ k
different-at [] t i k hi hk e = absurd (not-suc-le-zero hi)
different-at (x ∷ xs) t zero zero hi hk e = refl
different-at (x ∷ xs) t zero (suc k) hi hk e =
    absurd (not-both (among x xs) (pass-left (not (among x xs)) (different xs) t) (stands x xs k (le_of_suc-le-suc hk) e))
different-at (x ∷ xs) t (suc i) zero hi hk e =
    absurd (not-both (among x xs) (pass-left (not (among x xs)) (different xs) t) (stands x xs i (le_of_suc-le-suc hi) (sym e)))
different-at (x ∷ xs) t (suc i) (suc k) hi hk e =
    ap suc (different-at xs (pass-right (not (among x xs)) (different xs) t) i k (le_of_suc-le-suc hi) (le_of_suc-le-suc hk) e)
