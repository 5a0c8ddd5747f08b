-- Lines without a fault: the mended text and the text of a good record are made of them. Assumes nothing.
use mathlib.Core.Bool.{Bool, true, false}
use mathlib.Core.List.{List, [], ◌∷◌, ◌++◌, map, append-nil, append_assoc}
use mathlib.Core.Path.{◌≡◌, refl, sym, ap, ◌∙◌}
use Prim.Native.Nat.{ℕ, zero, suc, ◌+◌, ◌≤◌, ◌<◌}
use native.Mathlib.Omega.{arith}
use lib.Dec.{eqb}
use Rattle.laws.specs.Choice.{pick}
use Rattle.fields.specs.declared.Fields.{Fields}
use Rattle.writing.specs.Text.{lf}
use Rattle.record_text.specs.Text.{lines_text, form_text}
use Rattle.line_parts.specs.Line.{equals}
use Rattle.line_names.specs.Names.{name_text, name_count, has_name, key_name, is_decimal}
use Rattle.mended_text.specs.Text.{value_mended, line_mended, lines_mended}
use Rattle.mends.specs.Damage.{Damage, value_said, names_from, names_of_form, value_damaged, line_damaged, sheet_damaged, raised}
use Rattle.mends.proofs.Wanted.{names-first}
use Rattle.mends.proofs.Raised.{raised-none}

-- a line without a fault
abbrev pub unharmed : ℕ → Damage
unharmed k = record { name = k; before = 0; after = 0; zeros = 0; upper = λ i. false; carriage = false }

module _ (values : ℕ → List ℕ) where
  abbrev pub clean_line : ℕ → List ℕ
  clean_line k = name_text k ++ (equals ∷ (values k ++ (lf ∷ [])))

  abbrev pub clean : List ℕ → List ℕ
  clean [] = []
  clean (k ∷ ks) = clean_line k ++ clean ks

  unharmed-value : (k : ℕ) (v : List ℕ) → value_damaged (unharmed k) v ≡ v
  unfolding value_damaged
  unharmed-value k v = go (eqb k key_name) (is_decimal k)
    where
      go : (x y : Bool) → pick x (raised (λ i. false) v) (pick y v v) ≡ v
      go true y = raised-none v
      go false true = refl
      go false false = refl

  unharmed-line : (k : ℕ) (rest : List ℕ) → line_damaged values (unharmed k) ++ (lf ∷ rest) ≡ clean_line k ++ rest
  unfolding line_damaged
  unharmed-line k rest = simp (append-nil, append_assoc, unharmed-value k (values k)) refl

  -- lines without a fault are those of a sheet that nothing was done to
  pub unharmed-sheet : (ks : List ℕ) → sheet_damaged values (map unharmed ks) ≡ clean ks
  unfolding sheet_damaged
  unharmed-sheet [] = refl
  unharmed-sheet (k ∷ ks) =
      unharmed-line k (sheet_damaged values (map unharmed ks)) ∙ ap (λ (t : List ℕ). clean_line k ++ t) (unharmed-sheet ks)

  -- and of a mended text, if its values are these
  pub mended-clean : (two : Bool) (lines : List (List ℕ)) → ((k : ℕ) → k < name_count → value_mended two lines k ≡ values k)
      → (n k : ℕ) → k + n ≤ name_count → lines_mended two lines k n ≡ clean (names_from true k n)
  unfolding lines_mended line_mended names_from
  mended-clean two lines same zero k h = refl
  mended-clean two lines same (suc n) k h =
      (λ i. (name_text k ++ (equals ∷ (same k (omega arith) i ++ (lf ∷ [])))) ++ mended-clean two lines same n (k + 1) (omega arith) i)
      ∙ ap clean (sym (names-first k n (omega arith)))

-- and of the text of a record of either form
pub record-clean : (two : Bool) (number : ℕ) (f : Fields) (key : List ℕ) → clean (value_said number f key) (names_of_form two) ≡ form_text two number f key
unfolding names_from has_name value_said name_text form_text lines_text
record-clean true number f key = simp append-nil refl
record-clean false number f key = simp append-nil refl
