-- Each line of a sheet that is accepted says what the printed record has: each number is that of the line's digits, each word is the line's, and
-- each digit of the key has the value that it had. What form 1 gains is 0. Assumes nothing.
use mathlib.Core.Bool.{Bool, true, false}
use mathlib.Core.List.{List, [], ◌∷◌, ◌++◌, append_assoc, append_cancel_left, tail-eq_of_cons-eq}
use mathlib.Core.Path.{◌≡◌, refl, sym, ap, subst, ◌∙◌}
use mathlib.Core.Logic.{⊎_elim}
use Prim.Native.Nat.{ℕ, zero, suc, ◌+◌, ◌≤◌, ◌<◌}
use native.Mathlib.Omega.{arith}
use lib.ListN.{length, get_or}
use Rattle.laws.specs.Choice.{pick}
use Rattle.laws.proofs.Cases.{lt-or-le}
use Rattle.fields.specs.declared.Fields.{Fields}
use Rattle.writing.specs.Text.{ascii, lf, digits, digits_within}
use Rattle.record_text.specs.Text.{Good}
use Rattle.line_parts.specs.Line.{equals, name_in, value_in}
use Rattle.line_names.specs.Names.{name_text, name_count, is_decimal, has_name}
use Rattle.sheet_faults.specs.Sheet.{lines_of, times_named, value_named, is_form_two}
use Rattle.line_faults.specs.Faults.{zeros_dropped}
use Rattle.mended_text.specs.Text.{mended_value, gained, value_mended, text_mended}
use Rattle.mends.specs.Accepted.{GoodText, AcceptedSheet}
use Rattle.mends.specs.Damage.{value_said, names_from}
use Rattle.mends.specs.Kept.{decimal_from, SaysIt}
use Rattle.mends.proofs.Bytes.{every_append, is_other}
use Rattle.mends.proofs.OneLine.{marks-without}
use Rattle.mends.proofs.GoodValues.{below-ten, values-in-form}
use Rattle.mends.proofs.Sheets.{name-marks}
use Rattle.mends.proofs.Clean.{clean, clean_line, mended-clean, record-clean}
use Rattle.mends.proofs.Names.{number_at, number-top, one-counts, value_there}
use Rattle.mends.proofs.BadNames.{right-sheet, right-times}
use Rattle.mends.proofs.Wanted.{has-known, names-first}
use Rattle.mends.proofs.Digits.{number-kept, number-said, key-kept}
use Rattle.mends.proofs.Wholes.{Whole, lines-whole, values-whole, cut-alike}

-- two texts of lines without a fault that are the same have the same values
module _ (v w : ℕ → List ℕ) (v-whole : (k : ℕ) → k < name_count → Whole (v k)) (w-whole : (k : ℕ) → k < name_count → Whole (w k)) where
  front : (ℕ → List ℕ) → ℕ → List ℕ
  front u k = name_text k ++ (equals ∷ u k)

  cut_line : (u : ℕ → List ℕ) (k : ℕ) (rest : List ℕ) → clean_line u k ++ rest ≡ front u k ++ (lf ∷ rest)
  unfolding front
  cut_line u k rest = simp append_assoc refl

  front-whole : (u : ℕ → List ℕ) (k : ℕ) → k < name_count → Whole (u k) → Whole (front u k)
  unfolding front
  front-whole u k h e = every_append (is_other lf) (name_text k) (equals ∷ u k) (marks-without lf (name_text k) (omega arith) (name-marks k h)) e

  same_from : (n j : ℕ) → j + n ≤ name_count → clean v (names_from true j n) ≡ clean w (names_from true j n) → (k : ℕ) → j ≤ k → k < j + n → v k ≡ w k
  unfolding front
  same_from zero j h e k g l = absurd (omega arith)
  same_from (suc n) j h e k g l =
      let rest = names_from true (j + 1) n in
      let c = names-first j n (omega arith) in
      let lines : clean_line v j ++ clean v rest ≡ clean_line w j ++ clean w rest = sym (ap (clean v) c) ∙ e ∙ ap (clean w) c in
      let a =
      cut-alike (front v j) (front w j) (clean v rest) (clean w rest) (front-whole v j (omega arith) (v-whole j (omega arith)))
      (front-whole w j (omega arith) (w-whole j (omega arith)))
      (sym (cut_line v j (clean v rest)) ∙ lines ∙ cut_line w j (clean w rest)) in
      ⊎_elim (λ m. same_from n (j + 1) (omega arith) a.rest k (omega arith) (omega arith))
      (λ m. let z : j ≡ k = omega arith in
      subst (λ (i : ℕ). v i ≡ w i) z (tail-eq_of_cons-eq (append_cancel_left (name_text j) (equals ∷ v j) (equals ∷ w j) a.front)))
      (lt-or-le j k)

-- a value that is mended to what the record has says what the record has
says-it : (number : ℕ) (f : Fields) (key : List ℕ) → Good true number f key → (k : ℕ) → k < name_count → (v : List ℕ)
    → mended_value k v ≡ value_said number f key k → SaysIt number f key k v
unfolding mended_value zeros_dropped is_decimal value_said digits digits_within
says-it number f key g =
    below-ten (λ k. (v : List ℕ) → mended_value k v ≡ value_said number f key k → SaysIt number f key k v)
    (λ v e. number-kept 2 v e)
    (λ v e. number-kept number v e)
    (λ v e. number-kept f.version v e)
    (λ v e. e)
    (λ v e. e)
    (λ v e. number-kept f.side v e)
    (λ v e. number-kept f.place v e)
    (λ v e. number-kept f.mcc v e)
    (λ v e. number-kept f.mnc v e)
    (λ v e. key-kept key v g.size g.bytes e)

-- the values that a record has are the sheet's, mended, where its text is the mended text
pub mended-said : (text : List ℕ) (m : GoodText (text_mended (lines_of text))) (k : ℕ) → k < name_count
    → value_mended (is_form_two (lines_of text)) (lines_of text) k ≡ value_said m.number m.fields m.key k
unfolding text_mended
mended-said text m k h =
    let lines = lines_of text in
    let two = is_form_two lines in
    same_from (value_mended two lines) (value_said m.number m.fields m.key) (λ k l. values-whole two lines k (lines-whole text))
    (λ k l. marks-without lf (value_said m.number m.fields m.key k) (omega arith) (values-in-form true m.number m.fields m.key m.good k l).marks)
    name_count 0 (omega arith)
    (sym (mended-clean (value_mended two lines) two lines (λ k l. refl) name_count 0 (omega arith))
    ∙ m.is
    ∙ sym (record-clean true m.number m.fields m.key))
    k (omega arith) (omega arith)

module _ (text : List ℕ) (a : AcceptedSheet text) where
  abbrev lines : List (List ℕ)
  lines = lines_of text

  abbrev two : Bool
  two = is_form_two lines

  abbrev said : ℕ → List ℕ
  said = value_said a.mended.number a.mended.fields a.mended.key

  -- the value of each line, mended
  pub line-said : (i : ℕ) → i < length lines → (number_at lines i < name_count) × (mended_value (number_at lines i) (value_in (get_or lines i [])) ≡ said (number_at lines i))
  unfolding value_mended
  line-said i h = go (has_name two k) refl
    where
      k : ℕ
      k = number_at lines i

      times : times_named k lines ≡ pick (has_name two k) 1 0
      times = right-times lines (right-sheet text a.names).names k (number-top (name_in (get_or lines i [])))

      go : (t : Bool) → has_name two k ≡ t → (k < name_count) × (mended_value k (value_in (get_or lines i [])) ≡ said k)
      go true w =
          let once : times_named k lines ≡ 1 = times ∙ ap (λ (t : Bool). pick t 1 0) w in (
            has-known two k w,
            ap (mended_value k) (sym (value_there k lines i h refl once))
                ∙ ap (λ (t : Bool). pick t (mended_value k (value_named k lines)) (gained k)) (sym w)
                ∙ mended-said text a.mended k (has-known two k w),
          )
      go false w = absurd (omega (arith, one-counts k lines i h refl, times ∙ ap (λ (t : Bool). pick t 1 0) w))

  -- each line says what the record has
  pub kept : (i : ℕ) → i < length lines
      → SaysIt a.mended.number a.mended.fields a.mended.key (number_at lines i) (value_in (get_or lines i []))
  kept i h =
      let r = line-said i h in
      says-it a.mended.number a.mended.fields a.mended.key a.mended.good (number_at lines i) r.0 (value_in (get_or lines i [])) r.1

  -- and without the lines of form 2 both network codes are 0
  pub gained-zero : two ≡ false → (a.mended.fields.mcc ≡ 0) × (a.mended.fields.mnc ≡ 0)
  unfolding value_mended has_name gained decimal_from value_said
  gained-zero e = (zero-said a.mended.fields.mcc (at 7 (omega arith)), zero-said a.mended.fields.mnc (at 8 (omega arith)))
    where
      at : (k : ℕ) → k < name_count → said k ≡ value_mended false lines k
      at k h = sym (mended-said text a.mended k h) ∙ ap (λ (t : Bool). value_mended t lines k) e

      zero-said : (n : ℕ) → digits n ≡ ascii "0" → n ≡ 0
      zero-said n z = sym (number-said n) ∙ ap (decimal_from 0) z
