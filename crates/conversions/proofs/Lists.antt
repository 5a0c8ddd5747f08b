-- Lists by what stands in them and by place, and how many different numbers there can be. Assumes nothing.
use mathlib.Core.Path.{◌≡◌, refl, sym, ap, ◌∙◌}
use mathlib.Core.Logic.{◌⊎◌, inl, inr, ⊎_elim}
use mathlib.Core.List.{List, [], ◌∷◌}
use Prim.Native.Nat.{ℕ, zero, suc, ◌+◌, ◌≤◌, ◌<◌}
use native.Mathlib.Omega.{arith}
use lib.Dec.{eqb, ltb}
use lib.ListN.{length, get_or}
use borrow.Author.Tests.{lt-ltb, le-ltb, eq-eqb, ne_eqb}
use Rattle.laws.specs.Choice.{pick}
use Rattle.laws.proofs.Cases.{lt-or-le, eq-or-ne}
use Rattle.conversions.specs.Conforms.{In, Apart}

-- what stands in a list stands at a place of it, and the other way round

pub record At {A : Type 0} (l : List A) (d x : A) : Type 0 where
  pub place : ℕ
  pub within : place < length l
  pub is : get_or l place d ≡ x

pub in-at : {A : Type 0} (l : List A) (d x : A) → In x l → At l d x
in-at [] d x m = absurd m
in-at (y ∷ l) d x (inl e) = record { place = 0; within = omega arith; is = sym e }
in-at (y ∷ l) d x (inr m) =
    let a = in-at l d x m in
    record { place = suc a.place; within = omega (arith, a.within); is = a.is }

pub at_in : {A : Type 0} (l : List A) (d : A) (i : ℕ) → i < length l → In (get_or l i d) l
at_in [] d i h = absurd (omega arith)
at_in (y ∷ l) d zero h = inl refl
at_in (y ∷ l) d (suc i) h = inr (at_in l d i (omega arith))

-- different numbers, by place

module _ {A : Type 0} (number : A → ℕ) (d : A) where
  pub apart-at : (l : List A) → Apart number l → (i k : ℕ) → i < k → k < length l → number (get_or l i d) ≡ number (get_or l k d) → ⊥
  apart-at [] a i k h m e = absurd (omega arith)
  apart-at (x ∷ l) a zero zero h m e = absurd (omega arith)
  apart-at (x ∷ l) a zero (suc k) h m e = a.0 (get_or l k d) (at_in l d k (omega arith)) (sym e)
  apart-at (x ∷ l) a (suc i) zero h m e = absurd (omega arith)
  apart-at (x ∷ l) a (suc i) (suc k) h m e = apart-at l a.1 i k (omega arith) (omega arith) e

  pub at-apart : (l : List A) → ((i k : ℕ) → i < k → k < length l → number (get_or l i d) ≡ number (get_or l k d) → ⊥) → Apart number l
  at-apart [] h = tt
  at-apart (x ∷ l) h = (
    λ y m e.
        let a = in-at l d y m in
        h 0 (suc a.place) (omega arith) (omega (arith, a.within)) (sym e ∙ ap number (sym a.is)),
    at-apart l (λ i k p q e. h (suc i) (suc k) (omega arith) (omega arith) e),
  )

-- of two with one number, each is the other
pub one_of : {A : Type 0} (number : A → ℕ) (l : List A) → Apart number l → (x y : A) → In x l → In y l → number x ≡ number y → x ≡ y
one_of number [] a x y m n e = absurd m
one_of number (z ∷ l) a x y (inl p) (inl q) e = p ∙ sym q
one_of number (z ∷ l) a x y (inl p) (inr n) e = absurd (a.0 y n (sym e ∙ ap number p))
one_of number (z ∷ l) a x y (inr m) (inl q) e = absurd (a.0 x m (e ∙ ap number q))
one_of number (z ∷ l) a x y (inr m) (inr n) e = one_of number l a.1 x y m n e

-- how many have a number below n, and how many have the number n

module _ {A : Type 0} (number : A → ℕ) where
  abbrev below : ℕ → List A → ℕ
  below n [] = 0
  below n (x ∷ l) = pick (ltb (number x) n) 1 0 + below n l

  abbrev same : ℕ → List A → ℕ
  same n [] = 0
  same n (x ∷ l) = pick (eqb (number x) n) 1 0 + same n l

  one_more : (x n : ℕ) → pick (ltb x (suc n)) 1 0 ≡ pick (ltb x n) 1 0 + pick (eqb x n) 1 0
  one_more x n =
      ⊎_elim (λ h. rw (lt-ltb x (suc n) (omega arith), lt-ltb x n h, ne_eqb x n (λ e. omega arith)))
      (λ h. ⊎_elim (λ e. rw (lt-ltb x (suc n) (omega arith), le-ltb x n h, eq-eqb x n e))
      (λ ne. rw (le-ltb x (suc n) (above h ne), le-ltb x n h, ne_eqb x n ne))
      (eq-or-ne x n))
      (lt-or-le x n)
    where
      above : n ≤ x → (x ≡ n → ⊥) → suc n ≤ x
      above h ne = ⊎_elim (λ l. absurd (ne (omega arith))) (λ l. l) (lt-or-le x (suc n))

  below_more : (n : ℕ) (l : List A) → below (suc n) l ≡ below n l + same n l
  below_more n [] = refl
  below_more n (x ∷ l) = let e = below_more n l in omega (arith, one_more (number x) n)

  same_none : (n : ℕ) (l : List A) → ((y : A) → In y l → number y ≡ n → ⊥) → same n l ≡ 0
  same_none n [] h = refl
  same_none n (x ∷ l) h = rw (ne_eqb (number x) n (h x (inl refl))) (let e = same_none n l (λ y m. h y (inr m)) in omega arith)

  same-one : (n : ℕ) (l : List A) → Apart number l → same n l ≤ 1
  same-one n [] a = omega arith
  same-one n (x ∷ l) a =
      ⊎_elim (λ e. rw (eq-eqb (number x) n e) (let z = same_none n l (λ y m q. a.0 y m (q ∙ sym e)) in omega arith))
      (λ ne. rw (ne_eqb (number x) n ne) (let z = same-one n l a.1 in omega arith))
      (eq-or-ne (number x) n)

  below-few : (n : ℕ) (l : List A) → Apart number l → ((y : A) → In y l → 1 ≤ number y) → below (suc n) l ≤ n
  below-few zero [] a low = omega arith
  below-few zero (x ∷ l) a low =
      rw (le-ltb (number x) 1 (low x (inl refl))) (let z = below-few zero l a.1 (λ y m. low y (inr m)) in omega arith)
  below-few (suc n) l a low = let z = below-few n l a low in omega (arith, below_more (suc n) l, same-one (suc n) l a)

  below_all : (n : ℕ) (l : List A) → ((y : A) → In y l → number y < n) → below n l ≡ length l
  below_all n [] high = refl
  below_all n (x ∷ l) high = rw (lt-ltb (number x) n (high x (inl refl))) (let z = below_all n l (λ y m. high y (inr m)) in omega arith)

  -- no more than n have different numbers from 1 to n
  pub no_more : (n : ℕ) (l : List A) → Apart number l → ((y : A) → In y l → 1 ≤ number y) → ((y : A) → In y l → number y ≤ n) → length l ≤ n
  no_more n l a low high = omega (arith, below-few n l a low, below_all (suc n) l (λ y m. omega (arith, high y m)))
