-- A good record comes out as its form 2 text: of form 2 with no change listed, of form 1 with `form` alone. So mending what was printed as the
-- record changes nothing. Assumes nothing.
use mathlib.Core.Bool.{Bool, true, false, not, ◌&&◌, ◌||◌}
use mathlib.Core.List.Permᴰ
use mathlib.Core.List.{List, [], ◌∷◌, ◌++◌, map, append-nil}
use mathlib.Core.Path.{◌≡◌, refl, sym, ap, subst, ◌∙◌}
use Prim.Native.Nat.{ℕ, ◌+◌, ◌≤◌}
use native.Mathlib.Omega.{arith}
use lib.Dec.{eqb}
use lib.ListN.{length, length-append}
use Rattle.fields.specs.declared.Fields.{Fields}
use Rattle.refusals.specs.Numbers.{done}
use Rattle.writing.specs.Text.{ascii}
use Rattle.record_text.specs.Text.{lines_text, form_text, record_text, Good}
use Rattle.record_text.proofs.Lengths.{text-size}
use Rattle.records.proofs.Promises.{for-two}
use Rattle.line_names.specs.Names.{has_name, same_text, is_decimal, key_name}
use Rattle.sheet_faults.specs.Sheet.{lines_of, most_bytes}
use Rattle.mended_text.specs.Text.{text_mended}
use Rattle.mending.specs.Changes.{change_text, sheet_mended}
use Rattle.mending.specs.Answer.{mend_refusal}
use Rattle.mends.specs.Damage.{value_said, names_from, names_of_form, OfForm, sheet_damaged, any_line, made_hex, changes_made}
use Rattle.mends.proofs.Printed.{accepted}
use Rattle.mends.proofs.Raised.{none-raised}
use Rattle.mends.proofs.Clean.{unharmed, unharmed-sheet, record-clean}
use Rattle.mends.proofs.Damaged.{damaged-accepted, damaged-mended}

-- in the form's order, and no line harmed
in_order : (two : Bool) → OfForm two (map unharmed (names_of_form two))
unfolding names_from has_name
in_order true = Permᴰ.refl (names_of_form true)
in_order false = Permᴰ.refl (names_of_form false)

module _ (values : ℕ → List ℕ) where
  none-upper : (ks : List ℕ) → any_line (made_hex values) (map unharmed ks) ≡ false
  unfolding any_line
  none-upper [] = refl
  none-upper (k ∷ ks) = rw (none-raised (values k)) (go (eqb k key_name) (none-upper ks))
    where
      go : (t : Bool) → any_line (made_hex values) (map unharmed ks) ≡ false → (t && false) || any_line (made_hex values) (map unharmed ks) ≡ false
      go true r = r
      go false r = r

  only-form : (two : Bool) → changes_made two values (map unharmed (names_of_form two)) ≡ change_text (not two) (ascii "form")
  unfolding changes_made any_line change_text names_from has_name is_decimal same_text
  only-form true = rw (none-upper (names_of_form true))
  only-form false = rw (none-upper (names_of_form false))

-- the text of form 1 is the shorter one
form-shorter : (two : Bool) (number : ℕ) (f : Fields) (key : List ℕ) → length (form_text two number f key) ≤ length (record_text number f key)
unfolding form_text lines_text
form-shorter true number f key = omega arith
form-shorter false number f key = simp length-append (omega arith)

module _ (two : Bool) (number : ℕ) (f : Fields) (key : List ℕ) (good : Good two number f key) where
  -- a sheet to which nothing was done is the record's text
  pub the-sheet : sheet_damaged (value_said number f key) (map unharmed (names_of_form two)) ≡ form_text two number f key
  the-sheet = unharmed-sheet (value_said number f key) (names_of_form two) ∙ record-clean two number f key

  pub good-mended : sheet_mended (lines_of (form_text two number f key)) ≡ record_text number f key ++ change_text (not two) (ascii "form")
  good-mended =
      ap (λ (t : List ℕ). sheet_mended (lines_of t)) (sym the-sheet)
      ∙ damaged-mended two number f key good (map unharmed (names_of_form two)) (in_order two)
      ∙ ap (λ (t : List ℕ). record_text number f key ++ t) (only-form (value_said number f key) two)

  pub good-accepted : mend_refusal (form_text two number f key) ≡ done
  good-accepted =
      subst (λ (t : List ℕ). length t ≤ most_bytes → mend_refusal t ≡ done) the-sheet
      (damaged-accepted two number f key good (map unharmed (names_of_form two)) (in_order two))
      (omega (arith, form-shorter two number f key, text-size number f key (for-two two good)))

-- a good form 2 record comes out unchanged
module _ (number : ℕ) (f : Fields) (key : List ℕ) (good : Good true number f key) where
  pub unchanged : sheet_mended (lines_of (record_text number f key)) ≡ record_text number f key
  unfolding change_text
  unchanged = good-mended true number f key good ∙ append-nil (record_text number f key)

-- mending what was printed as the record changes nothing
pub again : (text : List ℕ) → mend_refusal text ≡ done → let r = text_mended (lines_of text) in (mend_refusal r ≡ done) × (sheet_mended (lines_of r) ≡ r)
again text e =
    let m = (accepted text e).mended in
    subst (λ (r : List ℕ). (mend_refusal r ≡ done) × (sheet_mended (lines_of r) ≡ r)) (sym m.is)
    (good-accepted true m.number m.fields m.key m.good, unchanged m.number m.fields m.key m.good)
