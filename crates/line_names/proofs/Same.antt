-- Texts that are the same byte by byte, and the number of a name. Assumes nothing.
use mathlib.Core.Path.{◌≡◌, refl, sym, ap, ◌∙◌}
use mathlib.Core.Bool.{Bool, true, false, ◌&&◌, false≢true}
use mathlib.Core.List.{List, [], ◌∷◌}
use Prim.Native.Nat.{ℕ, zero, suc, ◌+◌, ◌≤◌, ◌<◌, zero-le}
use native.Mathlib.Numerals.{add-one}
use native.Mathlib.Omega.{arith}
use lib.Dec.{eqb}
use lib.ListN.{length, get_or, drop, drop_of_length-le}
use lib.Seq.{drop-cons}
use borrow.Author.Tests.{eq-eqb, ne_eqb, eqb-true}
use Rattle.std.specs.Prelude.{Option, None, Some, MatchOption}
use Rattle.std.specs.Slice.{IsItemAt}
use Rattle.std.proofs.Common.{Bor}
use Rattle.laws.specs.Choice.{pick}
use Rattle.laws.proofs.Cases.{and_left, and_right}
use Rattle.laws.proofs.Tests.{agree}
use Rattle.line_names.specs.declared.Name.{Name}
use Rattle.line_names.specs.declared.Name.TheVariants.{Form, Number, Version, Alg, Use, Side, Place, Mcc, Mnc, Key}
use Rattle.line_names.specs.Names.{same_text, name_text, number_from, name_number, name_count, number_of}

pub same-sizes : (s t : List ℕ) → (length s ≡ length t → ⊥) → same_text s t ≡ false
unfolding same_text
same-sizes [] [] n = absurd (n refl)
same-sizes [] (y ∷ t) n = refl
same-sizes (x ∷ s) [] n = refl
same-sizes (x ∷ s) (y ∷ t) n = rw (same-sizes s t (λ e. n (ap suc e))) (go (eqb x y))
  where
    go : (b : Bool) → b && false ≡ false
    go true = refl
    go false = refl

-- from the place i on
module _ (s t : List ℕ) (i : ℕ) (sizes : length s ≡ length t) where
  pub same_end : length s ≤ i → same_text (drop i s) (drop i t) ≡ true
  unfolding same_text
  same_end h =
      let other : length t ≤ i = omega arith in
      rw (drop_of_length-le s h, drop_of_length-le t other)

  pub same-other : i < length s → (get_or s i 0 ≡ get_or t i 0 → ⊥) → same_text (drop i s) (drop i t) ≡ false
  unfolding same_text
  same-other h n = let other : i < length t = omega arith in rw (drop-cons s i 0 h, drop-cons t i 0 other, ne_eqb (get_or s i 0) (get_or t i 0) n)

  pub same-on : i < length s → get_or s i 0 ≡ get_or t i 0 → same_text (drop i s) (drop i t) ≡ same_text (drop (i + 1) s) (drop (i + 1) t)
  unfolding same_text
  same-on h e = let other : i < length t = omega arith in rw (add-one i, drop-cons s i 0 h, drop-cons t i 0 other, eq-eqb (get_or s i 0) (get_or t i 0) e)

-- texts with the same bytes are the same
same-is : (s t : List ℕ) → same_text s t ≡ true → s ≡ t
unfolding same_text
same-is [] [] e = refl
same-is [] (y ∷ t) e = absurd (false≢true e)
same-is (x ∷ s) [] e = absurd (false≢true e)
same-is (x ∷ s) (y ∷ t) e =
    let first = eqb-true x y (and_left (eqb x y) (same_text s t) e) in
    let more = same-is s t (and_right (eqb x y) (same_text s t) e) in
    λ i. first i ∷ more i

number-of-text : (k : ℕ) → k < name_count → name_number (name_text k) ≡ k
unfolding name_number number_from same_text name_text
number-of-text k h = agree (λ x. name_number (name_text x)) (λ x. x) 0 name_count tt k zero-le h

-- what is written as the k-th name has its number
pub number-is : (k : ℕ) → k < name_count → (name : List ℕ) → same_text name (name_text k) ≡ true → k ≡ name_number name
number-is k h name e = sym (ap name_number (same-is name (name_text k) e) ∙ number-of-text k h)

not-it : (k : ℕ) {t : Bool} {n m : ℕ} → t ≡ false → n ≡ m → pick t k n ≡ m
not-it k e h = rw e h

-- what is written as none of the ten has the number after theirs
pub number-none : (name : List ℕ)
    → same_text name (name_text 0) ≡ false → same_text name (name_text 1) ≡ false → same_text name (name_text 2) ≡ false
    → same_text name (name_text 3) ≡ false → same_text name (name_text 4) ≡ false → same_text name (name_text 5) ≡ false
    → same_text name (name_text 6) ≡ false → same_text name (name_text 7) ≡ false → same_text name (name_text 8) ≡ false
    → same_text name (name_text 9) ≡ false → name_number name ≡ name_count
unfolding name_number number_from
number-none name a b c d e f g h i j =
    not-it 0 a (not-it 1 b (not-it 2 c (not-it 3 d (not-it 4 e (not-it 5 f (not-it 6 g (not-it 7 h (not-it 8 i (not-it 9 j refl)))))))))

from-number : (k n : ℕ) (name : List ℕ) → number_from k n name ≤ k + n
unfolding number_from
from-number k zero name = omega arith
from-number k (suc n) name = go (same_text name (name_text k)) (from-number (k + 1) n name)
  where
    go : (t : Bool) → number_from (k + 1) n name ≤ k + 1 + n → pick t k (number_from (k + 1) n name) ≤ k + suc n
    go true h = omega arith
    go false h = omega arith

-- no name's number is above ten
pub number-most : (name : List ℕ) → name_number name ≤ name_count
unfolding name_number
number-most name = from-number 0 name_count name

-- the ten names, by their numbers
abbrev names : List Name
names = Form ∷ Number ∷ Version ∷ Alg ∷ Use ∷ Side ∷ Place ∷ Mcc ∷ Mnc ∷ Key ∷ []

-- the name at a place among the ten has that number
number-at : (k : ℕ) (name : Bor Name) → IsItemAt names k (Some name) → number_of name.now ≡ k
number-at zero name h = ap number_of (h.3.1 Form)
number-at (suc zero) name h = ap number_of (h.3.1 Form)
number-at (suc (suc zero)) name h = ap number_of (h.3.1 Form)
number-at (suc (suc (suc zero))) name h = ap number_of (h.3.1 Form)
number-at (suc (suc (suc (suc zero)))) name h = ap number_of (h.3.1 Form)
number-at (suc (suc (suc (suc (suc zero))))) name h = ap number_of (h.3.1 Form)
number-at (suc (suc (suc (suc (suc (suc zero)))))) name h = ap number_of (h.3.1 Form)
number-at (suc (suc (suc (suc (suc (suc (suc zero))))))) name h = ap number_of (h.3.1 Form)
number-at (suc (suc (suc (suc (suc (suc (suc (suc zero)))))))) name h = ap number_of (h.3.1 Form)
number-at (suc (suc (suc (suc (suc (suc (suc (suc (suc zero))))))))) name h = ap number_of (h.3.1 Form)
number-at (suc (suc (suc (suc (suc (suc (suc (suc (suc (suc k)))))))))) name h = absurd (omega (arith, h.3.0))

-- what is asked of the name of a number is asked of the number
pub by_number : (rule : ℕ → Bool) (k : ℕ) (t : Bool) (A : Type 0) (P : Bor Name → Type 0)
    → (A → name_count ≤ k → t ≡ rule k)
    → ((name : Bor Name) → P name → t ≡ rule (number_of name.now))
    → (r : Option (Bor Name))
    → IsItemAt names k r
    → MatchOption r A P
    → t ≡ rule k
by_number rule k t A P f g None h m = f m h.3
by_number rule k t A P f g (Some name) h m = g name m ∙ ap rule (number-at k name h)
