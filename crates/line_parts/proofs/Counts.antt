-- How many bytes of one kind a text begins with, and ends with. Assumes nothing.
use mathlib.Core.Path.{◌≡◌, refl, sym, ap, ◌∙◌}
use mathlib.Core.Bool.{Bool, true, false, cond, ◌&&◌, ◌||◌}
use mathlib.Core.Logic.{◌⊎◌, inl, inr}
use mathlib.Core.List.{List, [], ◌∷◌, ◌++◌, reverse, reverse-reverse}
use Prim.Native.Nat.{ℕ, suc, ◌+◌, ◌-◌, ◌≤◌, ◌<◌}
use native.Mathlib.Numerals.{one-add}
use native.Mathlib.Omega.{arith}
use lib.Dec.{eqb, ltb, eqb-zero-suc, eqb-suc-suc, leb-suc-suc}
use lib.ListN.{length, get_or, take, drop, length-append, drop_of_length-le}
use lib.Seq.{drop-cons}
use borrow.Author.Tests.{eq-eqb, ne_eqb, lt-ltb, le-ltb}
use Rattle.laws.specs.Choice.{pick}
use Rattle.laws.proofs.Cases.{eq-or-ne}
use lib.Pointwise.{pointwise}
use denote.Ref.{Bor}
use Rattle.std.specs.Prelude.{Option, None, Some, unwrap_or, MatchOption}
use Rattle.std.specs.Slice.{IsGetRangeResult}
use Rattle.lines.proofs.Pieces.{rest-is}
use Rattle.std.specs.List.{list_any, prefix_len, suffix_len}
use Rattle.std.proofs.lemmas.Grind.{reverse_onto}
use Rattle.lines.specs.Line.{space, index_of}
use Rattle.line_parts.specs.Line.{cr, ends_with, leading, trailing, bare, before_equals, after_equals, is_spaced}

-- in std's words, from the front and from behind
pub leading-prefix : (b : ℕ) (s : List ℕ) → prefix_len (λ x. eqb x b) s ≡ leading b s
unfolding leading
leading-prefix b [] = refl
leading-prefix b (x ∷ s) = go (eqb x b) (leading-prefix b s)
  where
    go : (t : Bool) → prefix_len (λ y. eqb y b) s ≡ leading b s → cond t (1 + prefix_len (λ y. eqb y b) s) 0 ≡ pick t (suc (leading b s)) 0
    go true h = one-add (prefix_len (λ y. eqb y b) s) ∙ ap suc h
    go false h = refl

pub leading-within : (b : ℕ) (s : List ℕ) → leading b s ≤ length s
unfolding leading
leading-within b [] = omega arith
leading-within b (x ∷ s) = go (eqb x b) (leading-within b s)
  where
    go : (t : Bool) → leading b s ≤ length s → pick t (suc (leading b s)) 0 ≤ suc (length s)
    go true h = omega arith
    go false h = omega arith

pub trailing-within : (b : ℕ) (s : List ℕ) → trailing b s ≤ length s
unfolding trailing
trailing-within b [] = omega arith
trailing-within b (x ∷ s) = go (eqb (trailing b s) (length s) && eqb x b) (trailing-within b s)
  where
    go : (t : Bool) → trailing b s ≤ length s → pick t (suc (length s)) (trailing b s) ≤ suc (length s)
    go true h = omega arith
    go false h = omega arith

-- one byte more at the end: another one, or one more of them
pub trailing-other : (b : ℕ) (s : List ℕ) (x : ℕ) → (x ≡ b → ⊥) → trailing b (s ++ (x ∷ [])) ≡ 0
unfolding trailing
trailing-other b [] x n = rw (ne_eqb x b n)
trailing-other b (y ∷ s) x n =
    let z : length (s ++ (x ∷ [])) ≡ suc (length s) = omega (arith, length-append s (x ∷ [])) in
    rw (trailing-other b s x n, z, eqb-zero-suc (length s))

pub trailing-on : (b : ℕ) (s : List ℕ) (x : ℕ) → x ≡ b → trailing b (s ++ (x ∷ [])) ≡ suc (trailing b s)
unfolding trailing
trailing-on b [] x e = rw (eq-eqb x b e)
trailing-on b (y ∷ s) x e =
    let z : length (s ++ (x ∷ [])) ≡ suc (length s) = omega (arith, length-append s (x ∷ [])) in
    rw (trailing-on b s x e, z, eqb-suc-suc (trailing b s) (length s)) (go (eqb (trailing b s) (length s) && eqb y b))
  where
    go : (t : Bool) → pick t (suc (suc (length s))) (suc (trailing b s)) ≡ suc (pick t (suc (length s)) (trailing b s))
    go true = refl
    go false = refl

pub trailing-suffix : (b : ℕ) (s : List ℕ) → suffix_len (λ x. eqb x b) s ≡ trailing b s
unfolding trailing
trailing-suffix b s = go (reverse s) ∙ ap (trailing b) (reverse-reverse s)
  where
    step : (x : ℕ) (t : List ℕ) → (x ≡ b) ⊎ (x ≡ b → ⊥) → prefix_len (λ y. eqb y b) t ≡ trailing b (reverse t)
        → prefix_len (λ y. eqb y b) (x ∷ t) ≡ trailing b (reverse t ++ x ∷ [])
    step x t (inl e) h = rw (eq-eqb x b e, trailing-on b (reverse t) x e) (one-add (prefix_len (λ y. eqb y b) t) ∙ ap suc h)
    step x t (inr n) h = rw (ne_eqb x b n, trailing-other b (reverse t) x n)

    go : (t : List ℕ) → prefix_len (λ x. eqb x b) t ≡ trailing b (reverse t)
    go [] = refl
    go (x ∷ t) = rw (reverse_onto t x []) (step x t (eq-or-ne x b) (go t))

-- a byte stands in a text before its end, or not at all
pub contains-index : (b : ℕ) (s : List ℕ) → list_any (λ x. eqb x b) s ≡ ltb (index_of b s) (length s)
unfolding index_of
contains-index b [] = refl
contains-index b (x ∷ s) = go (eqb x b) (contains-index b s)
  where
    go : (t : Bool) → list_any (λ y. eqb y b) s ≡ ltb (index_of b s) (length s)
        → t || list_any (λ y. eqb y b) s ≡ ltb (pick t 0 (suc (index_of b s))) (suc (length s))
    go true h = sym (lt-ltb 0 (suc (length s)) (omega arith))
    go false h = h ∙ sym (leb-suc-suc (suc (index_of b s)) (length s))

-- the last byte, which std compares with a text of one
last-byte : (s : List ℕ) → 0 < length s → drop (length s - 1) s ≡ get_or s (length s - 1) 0 ∷ []
last-byte s h =
    let k : length s - 1 < length s = omega arith in
    let end : length s ≤ suc (length s - 1) = omega arith in
    drop-cons s (length s - 1) 0 k ∙ ap (λ (t : List ℕ). get_or s (length s - 1) 0 ∷ t) (drop_of_length-le s end)

one-byte : (x b : ℕ) → (x ≡ b) ⊎ (x ≡ b → ⊥) → (eqb x b && true ≡ eqb x b) × (eqb b x && true ≡ eqb x b)
one-byte x b (inl e) = rw (eq-eqb x b e, eq-eqb b x (sym e)) (refl, refl)
one-byte x b (inr n) = rw (ne_eqb x b n, ne_eqb b x (λ e. n (sym e))) (refl, refl)

pub ends-last : (b : ℕ) (s : List ℕ) → (pointwise eqb (drop (length s - 1) s) (b ∷ []) ≡ ends_with b s) × (pointwise eqb (b ∷ []) (drop (length s - 1) s) ≡ ends_with b s)
unfolding ends_with
ends-last b [] = (refl, refl)
ends-last b (x ∷ s) =
    let h : 0 < length (x ∷ s) = omega arith in
    let last = get_or (x ∷ s) (length (x ∷ s) - 1) 0 in
    rw (last-byte (x ∷ s) h, lt-ltb 0 (length (x ∷ s)) h) (one-byte last b (eq-or-ne last b))

-- what `strip_suffix` leaves of a line
pub bare-stripped : (line : Bor (List ℕ)) (r : Option (Bor (List ℕ)))
    → MatchOption r (pointwise eqb (drop (length line.now - 1) line.now) (cr ∷ []) ≡ false) (λ x. (pointwise eqb (drop (length line.now - 1) line.now) (cr ∷ []) ≡ true) × (x.now ≡ take (length line.now - 1) line.now) × (length x.now + 1 ≡ length line.now))
    → (unwrap_or r line).now ≡ bare line.now
unfolding bare
bare-stripped line None e = rw (sym (ends-last cr line.now).0 ∙ e)
bare-stripped line (Some x) e = rw (sym (ends-last cr line.now).0 ∙ e.0) e.1

-- what `get` finds from a place on
pub part-from : (s : List ℕ) (n : ℕ) (r : Option (Bor (List ℕ))) (none : Bor (List ℕ)) → none.now ≡ [] → IsGetRangeResult s n (length s) r → (unwrap_or r none).now ≡ drop n s
part-from s n None none e (inl h, _) = e ∙ sym (drop_of_length-le s (omega arith))
part-from s n None none e (inr h, _) = absurd (omega arith)
part-from s n (Some x) none e ((_, _, f, _), _) = f ∙ rest-is s n

module _ (line : List ℕ) where
  pub spaced-before : 0 < trailing space (before_equals line) → is_spaced line ≡ true
  unfolding is_spaced
  spaced-before h = rw (lt-ltb 0 (trailing space (before_equals line)) h)

  pub spaced-after : trailing space (before_equals line) ≤ 0 → is_spaced line ≡ ltb 0 (leading space (after_equals line))
  unfolding is_spaced
  spaced-after h = rw (le-ltb 0 (trailing space (before_equals line)) h)
