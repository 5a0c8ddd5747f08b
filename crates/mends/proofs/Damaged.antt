-- A sheet made from a good record by any mixture of the faults is mended to that record's form 2 text, and the changes that are listed are
-- those that were made. Assumes nothing.
use mathlib.Core.Bool.{Bool, true, false, not, true≢false}
use mathlib.Core.List.{List, [], ◌∷◌, ◌++◌}
use mathlib.Core.Path.{◌≡◌, refl, sym, ap, ◌∙◌}
use Prim.Native.Nat.{ℕ, zero, suc, ◌+◌, ◌≤◌, ◌<◌}
use native.Mathlib.Omega.{arith}
use lib.Dec.{ltb}
use lib.ListN.{length}
use borrow.Author.Tests.{eq-eqb, le-ltb}
use Rattle.laws.specs.Choice.{pick}
use Rattle.laws.proofs.Cases.{and_left, and_right}
use Rattle.fields.specs.declared.Fields.{Fields}
use Rattle.refusals.specs.Numbers.{done}
use Rattle.writing.specs.Text.{ascii, digits, digits_within}
use Rattle.record_text.specs.Text.{record_text, Good}
use Rattle.records.proofs.Promises.{for-two}
use Rattle.line_names.specs.Names.{name_count, has_name, same_text}
use Rattle.line_faults.specs.declared.Fault.TheVariants.{Crlf, Hex, Zeros, Spaces}
use Rattle.sheet_faults.specs.Sheet.{lines_of, times_named, value_named, is_form_two, in_order_from, names_right_from, names_right, most_bytes, sheet_bad}
use Rattle.mended_text.specs.Text.{mended_value, gained, value_mended, lines_mended, text_mended}
use Rattle.mending.specs.Changes.{change_text, changes_text, sheet_mended}
use Rattle.mending.specs.Answer.{mend_refusal}
use Rattle.mends.specs.Damage.{Damage, value_said, names_of_form, OfForm, sheet_damaged, made_hex, made_zeros, made_spaces, changes_made}
use Rattle.mends.proofs.Printed.{taken}
use Rattle.mends.proofs.Bytes.{every, both_true}
use Rattle.mends.proofs.GoodValues.{below-ten, values-in-form}
use Rattle.mends.proofs.Orders.{count-order, every-order, rise-or-not}
use Rattle.mends.proofs.Sheets.{AllFine, lines_damaged, names_in, lines_are, times-are, faults-are, order_is, mended-is, sheet-ends, crlf-seen, hex-seen, zeros-seen, spaces-seen}
use Rattle.mends.proofs.Wanted.{has_all, has-known, all_named, named-once, form-named, number-wanted}
use Rattle.mends.proofs.Clean.{mended-clean, record-clean}

-- what form 1 gains is what its record has under the names that it lacks
gained-is : (two : Bool) (number : ℕ) (f : Fields) (key : List ℕ) → Good two number f key → (k : ℕ) → k < name_count → has_name two k ≡ false
    → gained k ≡ value_said number f key k
unfolding has_name gained value_said digits digits_within
gained-is true number f key g k h e = absurd (true≢false (sym (has_all k h) ∙ e))
gained-is false number f key g k h e =
    below-ten (λ k. has_name false k ≡ false → gained k ≡ value_said number f key k) (λ _. refl) there there there there there there
    (λ _. ap digits (sym g.mcc)) (λ _. ap digits (sym g.mnc)) there k h e
  where
    there : {s t : List ℕ} → ◌≡◌ {A = Bool} true false → s ≡ t
    there z = absurd (true≢false z)

module _ (two : Bool) (number : ℕ) (f : Fields) (key : List ℕ) (good : Good two number f key) (ds : List Damage) (order : OfForm two ds) where
  abbrev values : ℕ → List ℕ
  values = value_said number f key

  abbrev lines : List (List ℕ)
  lines = lines_damaged values ds

  fine : (ds : List Damage) → every (has_name two) (names_in values ds) ≡ true → AllFine values ds
  fine [] e = tt
  fine (d ∷ ds) e =
      let k = has-known two d.name (and_left (has_name two d.name) _ e) in (
        record { known = k; form = values-in-form two number f key good d.name k },
        fine ds (and_right (has_name two d.name) (every (has_name two) (names_in values ds)) e),
      )

  all-fine : AllFine values ds
  all-fine = fine ds (sym (every-order (has_name two) order) ∙ all_named two)

  times : (k : ℕ) → k < name_count + 1 → times_named k lines ≡ pick (has_name two k) 1 0
  times k h = times-are values k ds all-fine ∙ sym (count-order order k) ∙ named-once two k h

  form-two : is_form_two lines ≡ two
  unfolding is_form_two
  form-two = ap (ltb 0) (times 0 (omega arith)) ∙ form-named two

  names-from : (n k : ℕ) → k + n ≤ name_count + 1 → names_right_from two lines k n ≡ true
  unfolding names_right_from
  names-from zero k h = refl
  names-from (suc n) k h =
      both_true (eq-eqb _ (pick (has_name two k) 1 0) (times k (omega arith))) (names-from n (k + 1) (omega arith))

  names-right : names_right lines ≡ true
  unfolding names_right
  names-right = ap (λ (t : Bool). names_right_from t lines 0 (name_count + 1)) form-two ∙ names-from (name_count + 1) 0 (omega arith)

  -- each value is what it was
  value-back : (k : ℕ) → k < name_count → value_mended two lines k ≡ values k
  unfolding value_mended
  value-back k h = go (has_name two k) refl
    where
      go : (t : Bool) → has_name two k ≡ t → pick t (mended_value k (value_named k lines)) (gained k) ≡ values k
      go true e =
          let once : times_named k lines ≡ 1 = times k (omega arith) ∙ ap (λ (t : Bool). pick t 1 0) e in
          mended-is values k ds all-fine (omega (arith, once, times-are values k ds all-fine))
      go false e = gained-is two number f key good k h e

  text-back : text_mended lines ≡ record_text number f key
  unfolding text_mended
  text-back =
      ap (λ (t : Bool). lines_mended t lines 0 name_count) form-two
      ∙ mended-clean values two lines value-back name_count 0 (omega arith)
      ∙ record-clean true number f key

  abbrev sheet : List ℕ
  sheet = sheet_damaged values ds

  lines-back : lines_of sheet ≡ lines
  lines-back = lines_are values ds all-fine

  some-lines : 0 < length ds
  unfolding times_named
  some-lines = go ds (times 1 (omega arith) ∙ ap (λ (t : Bool). pick t 1 0) (number-wanted two))
    where
      go : (ds : List Damage) → times_named 1 (lines_damaged values ds) ≡ 1 → 0 < length ds
      go [] e = absurd (omega arith)
      go (d ∷ ds) e = omega arith

  names-good : length sheet ≤ most_bytes → sheet_bad sheet ≡ false
  unfolding sheet_bad
  names-good h =
      rw (le-ltb most_bytes (length sheet) h, sheet-ends values ds some-lines, lines-back, names-right)

  -- the sheet is accepted
  pub damaged-accepted : length sheet ≤ most_bytes → mend_refusal sheet ≡ done
  damaged-accepted h =
      taken sheet (record {
        names = names-good h;
        mended =
            record { number = number; fields = f; key = key; good = for-two two good; is = ap text_mended lines-back ∙ text-back };
      })

  changes-are : changes_text lines ≡ changes_made two values ds
  unfolding changes_text changes_made
  changes-are =
      let kept : in_order_from 0 lines ≡ same_text (names_in values ds) (names_of_form two) =
      order_is values 0 ds all-fine ∙ rise-or-not two (names_in values ds) order in
      λ i.
      change_text (faults-are values Crlf (λ d. d.carriage) (crlf-seen values) ds all-fine i) (ascii "crlf")
      ++ (change_text (faults-are values Hex (made_hex values) (hex-seen values) ds all-fine i) (ascii "hex")
      ++ (change_text (faults-are values Zeros made_zeros (zeros-seen values) ds all-fine i) (ascii "zeros")
      ++ (change_text (faults-are values Spaces made_spaces (spaces-seen values) ds all-fine i) (ascii "spaces")
      ++ (change_text (not (kept i)) (ascii "order")
      ++ change_text (not (form-two i)) (ascii "form")))))

  -- what is printed is the form 2 text of the record, and the changes that were made
  pub damaged-mended : sheet_mended (lines_of sheet) ≡ record_text number f key ++ changes_made two values ds
  unfolding sheet_mended
  damaged-mended = ap sheet_mended lines-back ∙ (λ i. text-back i ++ changes-are i)
