-- Names in any order: how often each occurs, and when they stand in the form's order. Assumes nothing.
use mathlib.Core.Bool.{Bool, true, false, false≢true, ◌&&◌}
use mathlib.Core.Logic.{◌⊎◌, inl, inr, ⊎_elim}
use mathlib.Core.List.Permᴰ
use mathlib.Core.List.{List, [], ◌∷◌, Permᴰ}
use mathlib.Core.Path.{◌≡◌, refl, sym, ap, subst, ◌∙◌}
use Prim.Native.Nat.{ℕ, zero, suc, ◌+◌, ◌≤◌, ◌<◌}
use native.Mathlib.Omega.{arith}
use lib.Dec.{eqb, ltb, leb}
use borrow.Author.Tests.{eq-eqb, ne_eqb, eqb-true, leb-true, le-leb, ltb-true}
use Rattle.laws.specs.Choice.{pick}
use Rattle.laws.proofs.Cases.{and_left, and_right, eq-or-ne}
use Rattle.line_names.specs.Names.{has_name, same_text}
use Rattle.mends.specs.Damage.{names_from, names_of_form}
use Rattle.mends.proofs.Bytes.{every, both_true}

-- how often a number occurs
abbrev once : ℕ → ℕ → ℕ
once x k = pick (eqb x k) 1 0

abbrev pub count_of : ℕ → List ℕ → ℕ
count_of k [] = 0
count_of k (x ∷ l) = once x k + count_of k l

count-self : (k : ℕ) (l : List ℕ) → count_of k (k ∷ l) ≡ 1 + count_of k l
count-self k l = rw (eq-eqb k k refl)

count-other : (x k : ℕ) (l : List ℕ) → (x ≡ k → ⊥) → count_of k (x ∷ l) ≡ count_of k l
count-other x k l n = rw (ne_eqb x k n) (omega arith)

-- another order changes neither that nor what holds of every number

pub count-order : {l m : List ℕ} → Permᴰ l m → (k : ℕ) → count_of k l ≡ count_of k m
count-order Permᴰ.nil k = refl
count-order (Permᴰ.cons e p) k = λ i. once (e i) k + count-order p k i
count-order (Permᴰ.swap {a} {b} {a'} {b'} {l} e f) k =
    (λ i. once (e i) k + (once (f i) k + count_of k l)) ∙ omega arith
count-order (Permᴰ.trans p q) k = count-order p k ∙ count-order q k

and-swap : (a b c : Bool) → a && (b && c) ≡ b && (a && c)
and-swap true b c = refl
and-swap false true c = refl
and-swap false false c = refl

pub every-order : (p : ℕ → Bool) {l m : List ℕ} → Permᴰ l m → every p l ≡ every p m
every-order p Permᴰ.nil = refl
every-order p (Permᴰ.cons e d) = λ i. p (e i) && every-order p d i
every-order p (Permᴰ.swap {a} {b} {a'} {b'} {l} e f) =
    (λ i. p (e i) && (p (f i) && every p l)) ∙ and-swap (p b') (p a') (every p l)
every-order p (Permᴰ.trans d e) = every-order p d ∙ every-order p e

-- and numbers that occur equally often stand in another order

record TakenOut (x : ℕ) (m : List ℕ) : Type 0 where
  rest : List ℕ
  order : Permᴰ (x ∷ rest) m

take_out : (x : ℕ) (m : List ℕ) → 0 < count_of x m → TakenOut x m
take_out x [] h = absurd (omega arith)
take_out x (y ∷ m) h = go (eq-or-ne y x) (take_out x m)
  where
    go : (y ≡ x) ⊎ (y ≡ x → ⊥) → (0 < count_of x m → TakenOut x m) → TakenOut x (y ∷ m)
    go (inl e) rec = record { rest = m; order = Permᴰ.cons (sym e) (Permᴰ.refl m) }
    go (inr n) rec =
        let t = rec (omega (arith, count-other y x m n, h)) in
        record { rest = y ∷ t.rest; order = Permᴰ.trans (Permᴰ.swap refl refl) (Permᴰ.cons refl t.order) }

pub counted-order : (l m : List ℕ) → ((k : ℕ) → count_of k l ≡ count_of k m) → Permᴰ l m
counted-order [] [] c = Permᴰ.nil
counted-order [] (y ∷ m) c = absurd (omega (arith, c y, count-self y m))
counted-order (x ∷ l) m c =
    let t = take_out x m (omega (arith, c x, count-self x l)) in
    Permᴰ.trans (Permᴰ.cons refl (counted-order l t.rest (λ k. omega (arith, c k, count-order t.order k)))) t.order

-- a number above them all occurs nowhere
pub count-above : (n k : ℕ) (l : List ℕ) → n ≤ k → every (λ x. ltb x n) l ≡ true → count_of k l ≡ 0
count-above n k [] h e = refl
count-above n k (x ∷ l) h e =
    let low = ltb-true x n (and_left (ltb x n) (every (λ x. ltb x n) l) e) in
    count-other x k l (λ z. omega arith) ∙ count-above n k l h (and_right (ltb x n) (every (λ x. ltb x n) l) e)

-- texts that are the same

pub same_self : (s : List ℕ) → same_text s s ≡ true
unfolding same_text
same_self [] = refl
same_self (x ∷ s) = both_true (eq-eqb x x refl) (same_self s)

pub same-is : (s t : List ℕ) → same_text s t ≡ true → s ≡ t
unfolding same_text
same-is [] [] e = refl
same-is [] (y ∷ t) e = absurd (false≢true e)
same-is (x ∷ s) [] e = absurd (false≢true e)
same-is (x ∷ s) (y ∷ t) e =
    λ i. eqb-true x y (and_left (eqb x y) (same_text s t) e) i ∷ same-is s t (and_right (eqb x y) (same_text s t) e) i

-- numbers that rise, from k on
abbrev pub rises : ℕ → List ℕ → Bool
rises k [] = true
rises k (x ∷ l) = leb k x && rises (x + 1) l

-- a smaller one is not among them
rises-above : (k j : ℕ) (l : List ℕ) → rises k l ≡ true → j < k → count_of j l ≡ 0
rises-above k j [] e h = refl
rises-above k j (x ∷ l) e h =
    let g = leb-true k x (and_left (leb k x) (rises (x + 1) l) e) in
    count-other x j l (λ z. omega arith)
    ∙ rises-above (x + 1) j l (and_right (leb k x) (rises (x + 1) l) e) (omega arith)

names-above : (two : Bool) (k n j : ℕ) → j < k → count_of j (names_from two k n) ≡ 0
unfolding names_from
names-above two k zero j h = refl
names-above two k (suc n) j h = go (has_name two k) (names-above two (k + 1) n j (omega arith))
  where
    go : (t : Bool) → count_of j (names_from two (k + 1) n) ≡ 0
        → count_of j (pick t (k ∷ names_from two (k + 1) n) (names_from two (k + 1) n)) ≡ 0
    go true r = count-other k j (names_from two (k + 1) n) (λ z. omega arith) ∙ r
    go false r = r

no_number : (l : List ℕ) → ((j : ℕ) → count_of j l ≡ 0) → l ≡ []
no_number [] e = refl
no_number (x ∷ l) e = absurd (omega (arith, e x, count-self x l))

-- numbers that rise and occur as often as those of the form are those of the form
rising-is : (two : Bool) (n k : ℕ) (l : List ℕ) → rises k l ≡ true → ((j : ℕ) → count_of j l ≡ count_of j (names_from two k n)) → l ≡ names_from two k n
unfolding names_from
rising-is two zero k l e c = no_number l c
rising-is two (suc n) k l e c = go (has_name two k) l e c (λ m. rising-is two n (k + 1) m)
  where
    rest : List ℕ
    rest = names_from two (k + 1) n

    go : (t : Bool) (l : List ℕ) → rises k l ≡ true → ((j : ℕ) → count_of j l ≡ count_of j (pick t (k ∷ rest) rest))
        → ((m : List ℕ) → rises (k + 1) m ≡ true → ((j : ℕ) → count_of j m ≡ count_of j rest) → m ≡ rest)
        → l ≡ pick t (k ∷ rest) rest
    go true [] e c more = absurd (omega (arith, c k, count-self k rest))
    go true (x ∷ l) e c more = ⊎_elim here past (eq-or-ne x k)
      where
        later : rises (x + 1) l ≡ true
        later = and_right (leb k x) (rises (x + 1) l) e

        here : x ≡ k → x ∷ l ≡ k ∷ rest
        here z =
            λ i. z i ∷ more l (subst (λ (m : ℕ). rises (m + 1) l ≡ true) z later)
            (λ j. let same : count_of j (x ∷ l) ≡ count_of j (k ∷ rest) = c j in
            let one : once x j ≡ once k j = ap (λ (m : ℕ). once m j) z in
            omega (arith, same, one)) i

        past : (x ≡ k → ⊥) → x ∷ l ≡ k ∷ rest
        past n =
            absurd (omega (
              arith,
              c k,
              count-self k rest,
              count-other x k l n,
              rises-above (x + 1) k l later (omega (arith, leb-true k x (and_left (leb k x) (rises (x + 1) l) e))),
            ))
    go false [] e c more = more [] refl c
    go false (x ∷ l) e c more = more (x ∷ l) (both_true (le-leb (k + 1) x above) (and_right (leb k x) (rises (x + 1) l) e)) c
      where
        above : k + 1 ≤ x
        above =
            ⊎_elim (λ z. absurd (omega (arith, c k, names-above two (k + 1) n k (omega arith), ap (λ (m : ℕ). count_of k (m ∷ l)) z, count-self k l)))
            (λ n. least n (leb-true k x (and_left (leb k x) (rises (x + 1) l) e))) (eq-or-ne x k)
          where
            least : (x ≡ k → ⊥) → k ≤ x → k + 1 ≤ x
            least n h = omega arith

names-rise : (two : Bool) → rises 0 (names_of_form two) ≡ true
unfolding names_from has_name
names-rise true = refl
names-rise false = refl

-- names of a form rise where they stand in its order
pub rise-or-not : (two : Bool) (l : List ℕ) → Permᴰ (names_of_form two) l → rises 0 l ≡ same_text l (names_of_form two)
rise-or-not two l p = go (rises 0 l) refl
  where
    go : (t : Bool) → rises 0 l ≡ t → t ≡ same_text l (names_of_form two)
    go true e = sym (ap (λ (m : List ℕ). same_text m (names_of_form two)) (rising-is two 10 0 l e (λ j. sym (count-order p j))) ∙ same_self (names_of_form two))
    go false e = other (same_text l (names_of_form two)) refl
      where
        other : (t : Bool) → same_text l (names_of_form two) ≡ t → false ≡ t
        other true s = sym e ∙ ap (rises 0) (same-is l (names_of_form two) s) ∙ names-rise two
        other false s = refl
