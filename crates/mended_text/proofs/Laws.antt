-- The mended value of a line by its name, and the lines one after the other. Assumes nothing.
use mathlib.Core.Path.{◌≡◌, refl, sym, ap, ◌∙◌}
use mathlib.Core.Bool.{Bool, true, false, not, ◌&&◌}
use mathlib.Core.List.{List, [], ◌∷◌, ◌++◌, append_assoc}
use Prim.Native.Nat.{ℕ, zero, suc, ◌+◌, ◌-◌, ◌<◌, ◌≤◌}
use native.Mathlib.Omega.{arith}
use lib.Dec.{eqb}
use lib.ListN.{length, get_or, take, drop, length-take}
use borrow.Author.Tests.{eq-eqb, ne_eqb}
use Rattle.writing.specs.Text.{lf}
use Rattle.laws.specs.Choice.{pick}
use Rattle.line_parts.specs.Line.{equals, leading}
use Rattle.line_parts.proofs.Counts.{leading-within}
use Rattle.line_names.specs.Names.{alg_name, use_name, key_name, name_count, name_text, is_decimal, has_name, number_of}
use Rattle.line_names.specs.declared.Name.{Name}
use Rattle.line_names.specs.declared.Name.TheVariants.{Form, Number, Version, Alg, Use, Side, Place, Mcc, Mnc, Key}
use Rattle.lines.proofs.Pieces.{rest-is}
use Rattle.line_faults.specs.Faults.{zeros_in, zeros_dropped, lower_hex}
use Rattle.sheet_faults.specs.Sheet.{is_form_two, value_named}
use Rattle.mended_text.specs.Text.{lowered, mended_value, gained, value_mended, line_mended, lines_mended, text_mended}

pub length-lowered : (s : List ℕ) → length (lowered s) ≡ length s
unfolding lowered
length-lowered [] = refl
length-lowered (b ∷ s) = ap suc (length-lowered s)

pub lowered-at : (s : List ℕ) (i : ℕ) → i < length s → get_or (lowered s) i 0 ≡ lower_hex (get_or s i 0)
unfolding lowered
lowered-at [] i h = absurd (omega arith)
lowered-at (b ∷ s) zero h = refl
lowered-at (b ∷ s) (suc i) h = lowered-at s i (omega arith)

pub zeros_within : (k : ℕ) (value : List ℕ) → zeros_dropped k value ≤ length value
unfolding zeros_dropped zeros_in
zeros_within k value = go (is_decimal k)
  where
    go : (t : Bool) → pick t (leading 48 (take (length value - 1) value)) 0 ≤ length value
    go true = omega (arith, leading-within 48 (take (length value - 1) value), length-take (length value - 1) value)
    go false = omega arith

-- the ten names stand by their numbers
abbrev pub name_at : ℕ → Name
name_at k = get_or (Form ∷ Number ∷ Version ∷ Alg ∷ Use ∷ Side ∷ Place ∷ Mcc ∷ Mnc ∷ Key ∷ []) k Form

number-at : (k : ℕ) → k < name_count → number_of (name_at k) ≡ k
number-at zero h = refl
number-at (suc zero) h = refl
number-at (suc (suc zero)) h = refl
number-at (suc (suc (suc zero))) h = refl
number-at (suc (suc (suc (suc zero)))) h = refl
number-at (suc (suc (suc (suc (suc zero))))) h = refl
number-at (suc (suc (suc (suc (suc (suc zero)))))) h = refl
number-at (suc (suc (suc (suc (suc (suc (suc zero))))))) h = refl
number-at (suc (suc (suc (suc (suc (suc (suc (suc zero)))))))) h = refl
number-at (suc (suc (suc (suc (suc (suc (suc (suc (suc zero))))))))) h = refl
number-at (suc (suc (suc (suc (suc (suc (suc (suc (suc (suc k)))))))))) h = absurd (omega arith)

-- the value from its first digit that stays
pub zeros-passed : (name : Name) (value : List ℕ) (n : ℕ) → n ≡ zeros_dropped (number_of name) value → take (length value - n) (drop n value) ≡ drop (zeros_dropped (number_of name) value) value
zeros-passed name value n e = rest-is value n ∙ ap (λ (k : ℕ). drop k value) e

module _ (k : ℕ) (value : List ℕ) where
  pub mended-key : k ≡ key_name → mended_value k value ≡ lowered (drop (zeros_dropped k value) value)
  unfolding mended_value
  mended-key e = rw (eq-eqb k key_name e)

  pub mended-other : (k ≡ key_name → ⊥) → mended_value k value ≡ drop (zeros_dropped k value) value
  unfolding mended_value
  mended-other n = rw (ne_eqb k key_name n)

-- so the key loses no zero, and a word nothing
pub mended-cases : (k : ℕ) (value : List ℕ)
    → mended_value k value ≡ pick (eqb k key_name) (lowered value) (pick (is_decimal k) (drop (zeros_in value) value) value)
unfolding mended_value zeros_dropped is_decimal
mended-cases k value = go (eqb k alg_name) (eqb k use_name) (eqb k key_name)
  where
    go : (x y z : Bool)
        → pick z (lowered (drop (pick (not x && (not y && not z)) (zeros_in value) 0) value)) (drop (pick (not x && (not y && not z)) (zeros_in value) 0) value)
        ≡ pick z (lowered value) (pick (not x && (not y && not z)) (drop (zeros_in value) value) value)
    go true y true = refl
    go true y false = refl
    go false true true = refl
    go false true false = refl
    go false false true = refl
    go false false false = refl

module _ (two : Bool) (lines : List (List ℕ)) (k : ℕ) where
  pub value-given : has_name two k ≡ true → value_mended two lines k ≡ mended_value k (value_named k lines)
  unfolding value_mended
  value-given e = rw e

  pub value-gained : has_name two k ≡ false → value_mended two lines k ≡ gained k
  unfolding value_mended
  value-gained e = rw e

  pub line-parts : line_mended two lines k ≡ (name_text k ++ (equals ∷ [])) ++ (value_mended two lines k ++ (lf ∷ []))
  unfolding line_mended
  line-parts = sym (append_assoc (name_text k) (equals ∷ []) (value_mended two lines k ++ (lf ∷ [])))

  lines_next : k < name_count → lines_mended two lines k (name_count - k) ≡ line_mended two lines k ++ lines_mended two lines (k + 1) (name_count - (k + 1))
  unfolding lines_mended
  lines_next h = let z : name_count - k ≡ suc (name_count - (k + 1)) = omega arith in ap (lines_mended two lines k) z

  pub line-named : k < name_count
      → lines_mended two lines k (name_count - k) ≡ line_mended two lines (number_of (name_at k)) ++ lines_mended two lines (k + 1) (name_count - (k + 1))
  line-named h =
      lines_next h ∙ ap (λ (n : ℕ). line_mended two lines n ++ lines_mended two lines (k + 1) (name_count - (k + 1))) (sym (number-at k h))

  pub lines_none : name_count ≤ k → lines_mended two lines k (name_count - k) ≡ []
  unfolding lines_mended
  lines_none h = let z : name_count - k ≡ 0 = omega arith in ap (lines_mended two lines k) z

pub text-lines : (two : Bool) (lines : List (List ℕ)) → two ≡ is_form_two lines → text_mended lines ≡ lines_mended two lines 0 name_count
unfolding text_mended
text-lines two lines e = ap (λ (t : Bool). lines_mended t lines 0 name_count) (sym e)
