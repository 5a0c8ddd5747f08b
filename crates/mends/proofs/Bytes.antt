-- Texts whose bytes all pass a test, and what is counted and found in a text that is made of parts. Assumes nothing.
use mathlib.Core.Bool.{Bool, true, false, not, ◌&&◌}
use mathlib.Core.List.{List, [], ◌∷◌, ◌++◌}
use mathlib.Core.Path.{◌≡◌, refl, sym, ap, ◌∙◌}
use Prim.Native.Nat.{ℕ, zero, suc, ◌+◌, ◌-◌, ◌<◌}
use native.Mathlib.Omega.{arith}
use lib.Dec.{eqb, ltb}
use lib.ListN.{length, get_or, take, replicate, length-append, length-replicate}
use lib.Seq.{get_or-append-add, take-append-add, take-length, take-suc}
use borrow.Author.Tests.{eq-eqb, lt-ltb, not-true, eqb-true, ltb-true}
use Rattle.laws.specs.Choice.{pick}
use Rattle.laws.proofs.Cases.{and_left, and_right}
use Rattle.lines.specs.Line.{index_of}
use Rattle.line_parts.specs.Line.{ends_with, leading, trailing}

-- every byte of a text passes a test
abbrev pub every : (ℕ → Bool) → List ℕ → Bool
every p [] = true
every p (b ∷ s) = p b && every p s

pub both_true : {a b : Bool} → a ≡ true → b ≡ true → a && b ≡ true
both_true e f = (λ i. e i && f i)

pub every_append : (p : ℕ → Bool) (s t : List ℕ) → every p s ≡ true → every p t ≡ true → every p (s ++ t) ≡ true
every_append p [] t e f = f
every_append p (b ∷ s) t e f = both_true (and_left (p b) _ e) (every_append p s t (and_right (p b) (every p s) e) f)

pub every-same : (p : ℕ → Bool) (b n : ℕ) → p b ≡ true → every p (replicate n b) ≡ true
every-same p b zero e = refl
every-same p b (suc n) e = both_true e (every-same p b n e)

pub every-then : (p q : ℕ → Bool) (s : List ℕ) → ((b : ℕ) → p b ≡ true → q b ≡ true) → every p s ≡ true → every q s ≡ true
every-then p q [] f e = refl
every-then p q (b ∷ s) f e = both_true (f b (and_left (p b) _ e)) (every-then p q s f (and_right (p b) (every p s) e))

pub every-at : (p : ℕ → Bool) (s : List ℕ) (i : ℕ) → i < length s → every p s ≡ true → p (get_or s i 0) ≡ true
every-at p [] i h e = absurd (omega arith)
every-at p (b ∷ s) zero h e = and_left (p b) _ e
every-at p (b ∷ s) (suc i) h e = every-at p s i (omega arith) (and_right (p b) (every p s) e)

-- a byte other than b
abbrev pub is_other : ℕ → ℕ → Bool
is_other b x = not (eqb x b)

-- the first byte b stands after a text without it
pub index-after : (b : ℕ) (s t : List ℕ) → every (is_other b) s ≡ true → index_of b (s ++ (b ∷ t)) ≡ length s
unfolding index_of
index-after b [] t e = rw (eq-eqb b b refl)
index-after b (x ∷ s) t e =
    rw (not-true (eqb x b) (and_left (is_other b x) _ e)) (ap suc (index-after b s t (and_right (is_other b x) (every (is_other b) s) e)))

pub leading-none : (b : ℕ) (s : List ℕ) → every (is_other b) s ≡ true → leading b s ≡ 0
unfolding leading
leading-none b [] e = refl
leading-none b (x ∷ s) e = rw (not-true (eqb x b) (and_left (is_other b x) _ e))

pub leading-more : (b n : ℕ) (s : List ℕ) → leading b (replicate n b ++ s) ≡ n + leading b s
unfolding leading
leading-more b zero s = omega arith
leading-more b (suc n) s = rw (eq-eqb b b refl) (omega (arith, leading-more b n s))

trailing-all : (b n : ℕ) → trailing b (replicate n b) ≡ n
unfolding trailing
trailing-all b zero = refl
trailing-all b (suc n) =
    rw (trailing-all b n, length-replicate n b, eq-eqb n n refl, eq-eqb b b refl)

pub trailing-after : (b n : ℕ) (s : List ℕ) → every (is_other b) s ≡ true → trailing b (s ++ replicate n b) ≡ n
unfolding trailing
trailing-after b n [] e = trailing-all b n
trailing-after b n (x ∷ s) e =
    rw (not-true (eqb x b) (and_left (is_other b x) _ e))
    (go (eqb (trailing b (s ++ replicate n b)) (length (s ++ replicate n b)))
    (trailing-after b n s (and_right (is_other b x) (every (is_other b) s) e)))
  where
    go : (t : Bool) → trailing b (s ++ replicate n b) ≡ n
        → pick (t && false) (suc (length (s ++ replicate n b))) (trailing b (s ++ replicate n b)) ≡ n
    go true r = r
    go false r = r

-- the last byte of a text

pub ends-after : (b : ℕ) (s t : List ℕ) → 0 < length t → ends_with b (s ++ t) ≡ ends_with b t
unfolding ends_with
ends-after b s t h =
    let z : length (s ++ t) - 1 ≡ length s + (length t - 1) = omega (arith, length-append s t) in
    let l : 0 < length (s ++ t) = omega (arith, length-append s t) in
    rw (lt-ltb 0 (length (s ++ t)) l, lt-ltb 0 (length t) h, z) (ap (λ (x : ℕ). eqb x b) (get_or-append-add s t (length t - 1) 0))

pub ends-other : (b : ℕ) (s : List ℕ) → every (is_other b) s ≡ true → ends_with b s ≡ false
unfolding ends_with
ends-other b [] e = refl
ends-other b (x ∷ s) e =
    let some : 0 < suc (length s) = omega arith in
    rw (lt-ltb 0 (suc (length s)) some) (not-true _ (every-at (is_other b) (x ∷ s) (suc (length s) - 1) (omega arith) e))

-- a text that ends with a byte is something and that byte
pub ends-split : (b : ℕ) (s : List ℕ) → ends_with b s ≡ true → s ≡ take (length s - 1) s ++ (b ∷ [])
unfolding ends_with
ends-split b s e =
    let some : 0 < length s = ltb-true 0 (length s) (and_left (ltb 0 (length s)) _ e) in
    let last : get_or s (length s - 1) 0 ≡ b = eqb-true _ b (and_right (ltb 0 (length s)) (eqb (get_or s (length s - 1) 0) b) e) in
    let z : suc (length s - 1) ≡ length s = omega arith in
    sym (take-length s) ∙ ap (λ (n : ℕ). take n s) (sym z) ∙ take-suc s (length s - 1) 0 (omega arith)
    ∙ ap (λ (x : ℕ). take (length s - 1) s ++ (x ∷ [])) last

-- a text without its last byte
pub front-is : (s : List ℕ) (b : ℕ) → take (length (s ++ (b ∷ [])) - 1) (s ++ (b ∷ [])) ≡ s
front-is s b =
    let z : length (s ++ (b ∷ [])) - 1 ≡ length s + 0 = omega (arith, length-append s (b ∷ [])) in
    rw z (take-append-add s (b ∷ []) 0 ∙ nothing s)
  where
    nothing : (s : List ℕ) → s ++ [] ≡ s
    nothing [] = refl
    nothing (x ∷ s) = ap (λ (t : List ℕ). x ∷ t) (nothing s)
