-- The lines of a text have no LF in them, and joined they are the text; their values have none either, so lines in a row are told apart.
-- Assumes nothing.
use mathlib.Core.Bool.{Bool, true, false, not, false≢true}
use mathlib.Core.List.{List, [], ◌∷◌, ◌++◌, head-eq_of_cons-eq, tail-eq_of_cons-eq}
use mathlib.Core.Path.{◌≡◌, refl, sym, ap, subst, ◌∙◌}
use Prim.Native.Nat.{ℕ, zero, suc, ◌+◌, ◌-◌, ◌<◌}
use native.Mathlib.Omega.{arith}
use lib.Dec.{eqb}
use lib.ListN.{length, take, drop}
use borrow.Author.Tests.{eq-eqb, ne_eqb, eqb-true}
use Rattle.laws.specs.Choice.{pick}
use Rattle.laws.proofs.Cases.{and_left, and_right}
use Rattle.fields.specs.Fields.{between}
use Rattle.writing.specs.Text.{ascii, lf}
use Rattle.lines.specs.Line.{space, index_of}
use Rattle.line_parts.specs.Line.{cr, equals, ends_with, leading, bare, after_equals, value_in}
use Rattle.line_names.specs.Names.{form_name, key_name, number_in, is_decimal, has_name}
use Rattle.line_faults.specs.Faults.{zeros_in, is_upper_hex, lower_hex}
use Rattle.sheet_faults.specs.Sheet.{onto_first, lines_of, value_named}
use Rattle.mended_text.specs.Text.{lowered, mended_value, gained, value_mended}
use Rattle.mended_text.proofs.Laws.{mended-cases}
use Rattle.mends.proofs.Values.{mended_as}
use Rattle.mends.specs.Kept.{joined_lines}
use Rattle.mends.proofs.Bytes.{every, both_true, is_other, ends-after}

-- a text without LF
abbrev pub Whole : List ℕ → Type 0
Whole s = every (is_other lf) s ≡ true

abbrev pub AllWhole : List (List ℕ) → Type 0
AllWhole [] = Unit
AllWhole (line ∷ lines) = Whole line × AllWhole lines

onto-whole : (b : ℕ) (lines : List (List ℕ)) → is_other lf b ≡ true → AllWhole lines → AllWhole (onto_first b lines)
onto-whole b [] e w = (both_true e refl, tt)
onto-whole b (line ∷ lines) e w = (both_true e w.0, w.1)

pub lines-whole : (text : List ℕ) → AllWhole (lines_of text)
unfolding lines_of
lines-whole [] = tt
lines-whole (b ∷ s) = go (eqb b lf) refl (lines-whole s)
  where
    go : (t : Bool) → eqb b lf ≡ t → AllWhole (lines_of s) → AllWhole (pick t ([] ∷ lines_of s) (onto_first b (lines_of s)))
    go true e w = (refl, w)
    go false e w = onto-whole b (lines_of s) (ap not e) w

-- a text whose last line has its LF is its lines, joined

joined-onto : (b : ℕ) (lines : List (List ℕ)) → 0 < length lines → joined_lines (onto_first b lines) ≡ b ∷ joined_lines lines
unfolding joined_lines
joined-onto b [] h = absurd (omega arith)
joined-onto b (line ∷ lines) h = refl

lines-some : (s : List ℕ) → 0 < length s → 0 < length (lines_of s)
unfolding lines_of
lines-some [] h = absurd (omega arith)
lines-some (b ∷ s) h = go (eqb b lf) (lines_of s)
  where
    go : (t : Bool) (lines : List (List ℕ)) → 0 < length (pick t ([] ∷ lines) (onto_first b lines))
    go true lines = omega arith
    go false [] = omega arith
    go false (line ∷ lines) = omega arith

pub lines-joined : (text : List ℕ) → ends_with lf text ≡ true → joined_lines (lines_of text) ≡ text
unfolding lines_of joined_lines ends_with
lines-joined [] e = absurd (false≢true e)
lines-joined (b ∷ []) e = go (eqb b lf) refl e
  where
    go : (t : Bool) → eqb b lf ≡ t → t ≡ true → joined_lines (pick t ([] ∷ []) ((b ∷ []) ∷ [])) ≡ b ∷ []
    go true z e = λ i. sym (eqb-true b lf z) i ∷ []
    go false z e = absurd (false≢true e)
lines-joined (b ∷ c ∷ s) e =
    go (eqb b lf) refl (lines-joined (c ∷ s) (sym (ends-after lf (b ∷ []) (c ∷ s) (omega arith)) ∙ e))
  where
    go : (t : Bool) → eqb b lf ≡ t → joined_lines (lines_of (c ∷ s)) ≡ c ∷ s → joined_lines (pick t ([] ∷ lines_of (c ∷ s)) (onto_first b (lines_of (c ∷ s)))) ≡ b ∷ c ∷ s
    go true z r = λ i. sym (eqb-true b lf z) i ∷ r i
    go false z r = joined-onto b (lines_of (c ∷ s)) (lines-some (c ∷ s) (omega arith)) ∙ ap (λ (t : List ℕ). b ∷ t) r

-- parts of a text without LF

every_take : (p : ℕ → Bool) (n : ℕ) (s : List ℕ) → every p s ≡ true → every p (take n s) ≡ true
every_take p zero s e = refl
every_take p (suc n) [] e = refl
every_take p (suc n) (b ∷ s) e = both_true (and_left (p b) (every p s) e) (every_take p n s (and_right (p b) (every p s) e))

every_drop : (p : ℕ → Bool) (n : ℕ) (s : List ℕ) → every p s ≡ true → every p (drop n s) ≡ true
every_drop p zero s e = e
every_drop p (suc n) [] e = refl
every_drop p (suc n) (b ∷ s) e = every_drop p n s (and_right (p b) (every p s) e)

value-whole : (line : List ℕ) → Whole line → Whole (value_in line)
unfolding value_in after_equals bare
value-whole line w =
    every_drop (is_other lf) (leading space (after_equals line)) (after_equals line)
    (every_drop (is_other lf) (suc (index_of equals (bare line))) (bare line) (go (ends_with cr line)))
  where
    go : (t : Bool) → Whole (pick t (take (length line - 1) line) line)
    go true = every_take (is_other lf) (length line - 1) line w
    go false = w

named-whole : (k : ℕ) (lines : List (List ℕ)) → AllWhole lines → Whole (value_named k lines)
unfolding value_named
named-whole k [] w = refl
named-whole k (line ∷ lines) w = go (eqb (number_in line) k) (named-whole k lines w.1)
  where
    go : (t : Bool) → Whole (value_named k lines) → Whole (pick t (value_in line) (value_named k lines))
    go true r = value-whole line w.0
    go false r = r

lower-whole : (b : ℕ) → is_other lf b ≡ true → is_other lf (lower_hex b) ≡ true
unfolding lower_hex is_upper_hex
lower-whole b e = go (between 65 b 70) refl
  where
    go : (t : Bool) → between 65 b 70 ≡ t → is_other lf (pick t (b + 32) b) ≡ true
    go true z = ap not (ne_eqb (b + 32) lf (λ y. omega arith))
    go false z = e

lowered-whole : (s : List ℕ) → Whole s → Whole (lowered s)
unfolding lowered
lowered-whole [] w = refl
lowered-whole (b ∷ s) w =
    both_true (lower-whole b (and_left (is_other lf b) (every (is_other lf) s) w)) (lowered-whole s (and_right (is_other lf b) (every (is_other lf) s) w))

mended-whole : (k : ℕ) (v : List ℕ) → Whole v → Whole (mended_value k v)
mended-whole k v w = subst Whole (sym (mended-cases k v)) (go (eqb k key_name) (is_decimal k))
  where
    go : (x y : Bool) → Whole (mended_as v x y)
    go true y = lowered-whole v w
    go false true = every_drop (is_other lf) (zeros_in v) v w
    go false false = w

pub values-whole : (two : Bool) (lines : List (List ℕ)) (k : ℕ) → AllWhole lines → Whole (value_mended two lines k)
unfolding value_mended gained
values-whole two lines k w = go (has_name two k) (eqb k form_name)
  where
    go : (x y : Bool) → Whole (pick x (mended_value k (value_named k lines)) (pick y (ascii "2") (ascii "0")))
    go true y = mended-whole k (value_named k lines) (named-whole k lines w)
    go false true = refl
    go false false = refl

-- two texts that are cut at their first LF are cut alike
pub record Alike (s t a b : List ℕ) : Type 0 where
  pub front : s ≡ t
  pub rest : a ≡ b

pub cut-alike : (s t a b : List ℕ) → Whole s → Whole t → s ++ (lf ∷ a) ≡ t ++ (lf ∷ b) → Alike s t a b
cut-alike [] [] a b v w e = record { front = refl; rest = tail-eq_of_cons-eq e }
cut-alike [] (y ∷ t) a b v w e =
    absurd (false≢true (ap not (sym (eq-eqb y lf (sym (head-eq_of_cons-eq e)))) ∙ and_left (is_other lf y) _ w))
cut-alike (x ∷ s) [] a b v w e =
    absurd (false≢true (ap not (sym (eq-eqb x lf (head-eq_of_cons-eq e))) ∙ and_left (is_other lf x) _ v))
cut-alike (x ∷ s) (y ∷ t) a b v w e =
    let r =
    cut-alike s t a b (and_right (is_other lf x) (every (is_other lf) s) v) (and_right (is_other lf y) (every (is_other lf) t) w) (tail-eq_of_cons-eq e) in
    record { front = λ i. head-eq_of_cons-eq e i ∷ r.front i; rest = r.rest }
