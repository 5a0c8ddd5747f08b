-- Every line with an `=` is made of its parts: a name, spaces, `=`, spaces, a value, and a CR or none; and a value of what it is mended to, by
-- zeros or upper case. Assumes nothing.
use mathlib.Core.Bool.{Bool, true, false, ◌&&◌}
use mathlib.Core.List.{List, [], ◌∷◌, ◌++◌, append-nil}
use mathlib.Core.Path.{◌≡◌, refl, sym, ap, ◌∙◌}
use Prim.Native.Nat.{ℕ, suc, ◌+◌, ◌-◌, ◌<◌}
use native.Mathlib.Omega.{arith}
use lib.Dec.{eqb}
use lib.ListN.{length, get_or, take, drop, replicate, take-append-drop}
use lib.Seq.{take-length}
use borrow.Author.Tests.{eqb-true, ltb-true}
use Rattle.laws.specs.Choice.{pick}
use Rattle.fields.specs.Fields.{between}
use Rattle.fields.proofs.Ranges.{between-low, between-high}
use Rattle.forms.proofs.Decimals.{between_is}
use Rattle.lines.specs.Line.{space, index_of}
use Rattle.line_parts.specs.Line.{cr, equals, ends_with, leading, trailing, bare, before_equals, after_equals, has_equals, name_in, value_in}
use Rattle.line_parts.proofs.Counts.{trailing-within}
use Rattle.line_names.specs.Names.{key_name, is_decimal, name_text, number_in}
use Rattle.line_faults.specs.Faults.{is_upper_hex, lower_hex, zeros_in}
use Rattle.mended_text.specs.Text.{lowered, mended_value}
use Rattle.mends.specs.Damage.{Damage, raise, raised, value_damaged, line_damaged}
use Rattle.mends.proofs.Bytes.{ends-split}
use Rattle.mended_text.proofs.Laws.{mended-cases}
use Rattle.mends.proofs.Values.{mended_as}
use Rattle.mends.proofs.Digits.{zeros-front, zeros-split}

-- at the end of a text, at its first byte b, before the bytes b that it ends with, after those that it begins with

bare-split : (line : List ℕ) → bare line ++ pick (ends_with cr line) (cr ∷ []) [] ≡ line
unfolding bare
bare-split line = go (ends_with cr line) refl
  where
    go : (t : Bool) → ends_with cr line ≡ t → pick t (take (length line - 1) line) line ++ pick t (cr ∷ []) [] ≡ line
    go true e = sym (ends-split cr line e)
    go false e = append-nil line

index-split : (b : ℕ) (s : List ℕ) → index_of b s < length s → take (index_of b s) s ++ (b ∷ drop (suc (index_of b s)) s) ≡ s
unfolding index_of
index-split b [] h = absurd (omega arith)
index-split b (x ∷ s) h = go (eqb x b) refl h (index-split b s)
  where
    go : (t : Bool) → eqb x b ≡ t → pick t 0 (suc (index_of b s)) < suc (length s)
        → (index_of b s < length s → take (index_of b s) s ++ (b ∷ drop (suc (index_of b s)) s) ≡ s)
        → take (pick t 0 (suc (index_of b s))) (x ∷ s) ++ (b ∷ drop (suc (pick t 0 (suc (index_of b s)))) (x ∷ s)) ≡ x ∷ s
    go true e h rec = λ i. sym (eqb-true x b e) i ∷ s
    go false e h rec = ap (λ (t : List ℕ). x ∷ t) (rec (omega arith))

trailing-split : (b : ℕ) (s : List ℕ) → take (length s - trailing b s) s ++ replicate (trailing b s) b ≡ s
unfolding trailing
trailing-split b [] = refl
trailing-split b (x ∷ s) = go (eqb (trailing b s) (length s)) (eqb x b) refl refl (trailing-split b s)
  where
    cut : ℕ → List ℕ → List ℕ
    cut n s = take (length s - n) s ++ replicate n b

    some : cut (trailing b s) s ≡ s → cut (trailing b s) (x ∷ s) ≡ x ∷ s
    some r =
        let z : suc (length s) - trailing b s ≡ suc (length s - trailing b s) = omega (arith, trailing-within b s) in
        ap (λ (n : ℕ). take n (x ∷ s) ++ replicate (trailing b s) b) z ∙ ap (λ (t : List ℕ). x ∷ t) r

    all : trailing b s ≡ length s → x ≡ b → cut (trailing b s) s ≡ s → cut (suc (length s)) (x ∷ s) ≡ x ∷ s
    all e f r =
        let z : suc (length s) - suc (length s) ≡ 0 = omega arith in
        let y : length s - length s ≡ 0 = omega arith in
        let same : replicate (length s) b ≡ s =
        ap (λ (n : ℕ). take n s ++ replicate (length s) b) (sym y) ∙ ap (λ (n : ℕ). cut n s) (sym e) ∙ r in
        ap (λ (n : ℕ). take n (x ∷ s) ++ replicate (suc (length s)) b) z ∙ (λ i. sym f i ∷ same i)

    go : (t u : Bool) → eqb (trailing b s) (length s) ≡ t → eqb x b ≡ u → cut (trailing b s) s ≡ s
        → cut (pick (t && u) (suc (length s)) (trailing b s)) (x ∷ s) ≡ x ∷ s
    go true true e f r = all (eqb-true (trailing b s) (length s) e) (eqb-true x b f) r
    go true false e f r = some r
    go false u e f r = some r

leading-split : (b : ℕ) (s : List ℕ) → replicate (leading b s) b ++ drop (leading b s) s ≡ s
leading-split b s =
    let front : take (leading b s) s ≡ replicate (leading b s) b =
    ap (λ (t : List ℕ). take (leading b t) s) (sym (take-length s)) ∙ zeros-front b (length s) s ∙ ap (λ (t : List ℕ). replicate (leading b t) b) (take-length s) in
    ap (λ (t : List ℕ). t ++ drop (leading b s) s) (sym front) ∙ take-append-drop (leading b s) s

-- upper case where it was

raise-lower : (b : ℕ) → raise (is_upper_hex b) (lower_hex b) ≡ b
unfolding raise lower_hex is_upper_hex
raise-lower b = go (between 65 b 70) refl
  where
    go : (t : Bool) → between 65 b 70 ≡ t → pick (t && between 97 (pick t (b + 32) b) 102) (pick t (b + 32) b - 32) (pick t (b + 32) b) ≡ b
    go true e =
        let l = between-low 65 b 70 e in
        let h = between-high 65 b 70 e in
        rw (between_is 97 (b + 32) 102 (omega arith) (omega arith)) (omega arith)
    go false e = refl

raised-lower : (v : List ℕ) → raised (λ i. is_upper_hex (get_or v i 0)) (lowered v) ≡ v
unfolding raised lowered
raised-lower [] = refl
raised-lower (b ∷ s) = λ i. raise-lower b i ∷ raised-lower s i

-- what was done to a line
abbrev pub damage_of : List ℕ → Damage
damage_of line =
    record {
      name = number_in line;
      before = trailing space (before_equals line);
      after = leading space (after_equals line);
      zeros = zeros_in (value_in line);
      upper = λ i. is_upper_hex (get_or (value_in line) i 0);
      carriage = ends_with cr line;
    }

-- its value is made of what it is mended to
value_made : (line : List ℕ) → value_damaged (damage_of line) (mended_value (number_in line) (value_in line)) ≡ value_in line
unfolding value_damaged
value_made line =
    ap (value_damaged (damage_of line)) (mended-cases (number_in line) v) ∙ go (eqb (number_in line) key_name) (is_decimal (number_in line))
  where
    v : List ℕ
    v = value_in line

    go : (k n : Bool) → pick k (raised (λ i. is_upper_hex (get_or v i 0)) (mended_as v k n)) (pick n (replicate (zeros_in v) 48 ++ mended_as v k n) (mended_as v k n)) ≡ v
    go true n = raised-lower v
    go false true = zeros-split v
    go false false = refl

-- and the line of its parts
module _ (line : List ℕ) (has : has_equals line ≡ true) where
  abbrev spaces_before : List ℕ
  spaces_before = replicate (trailing space (before_equals line)) space

  abbrev spaces_after : List ℕ
  spaces_after = replicate (leading space (after_equals line)) space

  before_split : name_in line ++ spaces_before ≡ before_equals line
  unfolding name_in
  before_split = rw has (trailing-split space (before_equals line))

  after-split : spaces_after ++ value_in line ≡ after_equals line
  unfolding value_in
  after-split = leading-split space (after_equals line)

  body-split : before_equals line ++ (equals ∷ after_equals line) ≡ bare line
  unfolding before_equals after_equals has_equals
  body-split = index-split equals (bare line) (ltb-true (index_of equals (bare line)) (length (bare line)) has)

  line-split : ((name_in line ++ spaces_before) ++ (equals ∷ (spaces_after ++ value_in line))) ++ pick (ends_with cr line) (cr ∷ []) [] ≡ line
  line-split =
      (λ i. (before_split i ++ (equals ∷ after-split i)) ++ pick (ends_with cr line) (cr ∷ []) [])
      ∙ ap (λ (t : List ℕ). t ++ pick (ends_with cr line) (cr ∷ []) []) body-split
      ∙ bare-split line

  -- so what was done to a line, done to the record's line, gives the line
  pub line_made : (values : ℕ → List ℕ) → name_in line ≡ name_text (number_in line) → mended_value (number_in line) (value_in line) ≡ values (number_in line)
      → line_damaged values (damage_of line) ≡ line
  unfolding line_damaged
  line_made values named same =
      (λ i.
      ((sym named i ++ spaces_before) ++ (equals ∷ (spaces_after ++ (ap (value_damaged (damage_of line)) (sym same) ∙ value_made line) i)))
      ++ pick (ends_with cr line) (cr ∷ []) [])
      ∙ line-split
