-- A text is accepted exactly where it is made from a good record by the faults that are mended, and by no others, in at most 4,096 bytes.
-- Assumes nothing.
use mathlib.Core.Bool.{Bool, true, false, false≢true}
use mathlib.Core.Logic.{⊎_elim, ◌↔◌}
use mathlib.Core.List.{List, [], ◌∷◌, ◌++◌, map}
use mathlib.Core.Path.{◌≡◌, refl, sym, ap, subst, ◌∙◌}
use Prim.Native.Nat.{ℕ, suc, ◌+◌, ◌≤◌, ◌<◌, zero-le}
use native.Mathlib.Omega.{arith}
use lib.Dec.{eqb, ltb}
use lib.ListN.{length, get_or}
use borrow.Author.Tests.{lt-ltb}
use Rattle.laws.specs.Choice.{pick}
use Rattle.laws.proofs.Cases.{lt-or-le}
use Rattle.laws.proofs.Tests.{holds}
use Rattle.refusals.specs.Numbers.{done}
use Rattle.writing.specs.Text.{lf}
use Rattle.record_text.specs.Text.{Good}
use Rattle.records.proofs.Promises.{of-form}
use Rattle.line_parts.specs.Line.{has_equals, name_in}
use Rattle.line_names.specs.Names.{name_text, name_count, number_in, has_name}
use Rattle.sheet_faults.specs.Sheet.{lines_of, times_named, is_form_two, names_right, most_bytes}
use Rattle.mended_text.specs.Text.{text_mended}
use Rattle.mending.specs.Answer.{mend_refusal}
use Rattle.mends.specs.Accepted.{GoodText, AcceptedSheet}
use Rattle.mends.specs.Damage.{value_said, names_from, names_of_form, OfForm, line_damaged, sheet_damaged, MadeFrom}
use Rattle.mends.specs.Kept.{joined_lines}
use Rattle.mends.proofs.Bytes.{every, both_true}
use Rattle.mends.proofs.Orders.{count_of, counted-order, count-above}
use Rattle.mends.proofs.Printed.{accepted}
use Rattle.mends.proofs.Names.{numbered, number-top}
use Rattle.mends.proofs.BadNames.{RightSheet, right-sheet, right-times}
use Rattle.mends.proofs.Wholes.{lines-joined}
use Rattle.mends.proofs.Kept.{line-said, gained-zero}
use Rattle.mends.proofs.Parts.{damage_of, line_made}
use Rattle.mends.proofs.Damaged.{damaged-accepted}
use Rattle.mends.proofs.Wanted.{named-once}

-- a line that has a name has an `=`
name-some : (k : ℕ) → k < name_count → ltb 0 (length (name_text k)) ≡ true
unfolding name_text
name-some k h = holds (λ k. ltb 0 (length (name_text k))) 0 name_count tt k zero-le h

named-equals : (line : List ℕ) (k : ℕ) → k < name_count → name_in line ≡ name_text k → has_equals line ≡ true
unfolding name_in
named-equals line k h e = go (has_equals line) _ e
  where
    go : (t : Bool) (name : List ℕ) → pick t name [] ≡ name_text k → t ≡ true
    go true name e = refl
    go false name e = absurd (false≢true (ap (λ (s : List ℕ). ltb 0 (length s)) e ∙ name-some k h))

-- lines that are made so, one after the other
lines-made : (values : ℕ → List ℕ) (lines : List (List ℕ))
    → ((i : ℕ) → i < length lines → line_damaged values (damage_of (get_or lines i [])) ≡ get_or lines i [])
    → joined_lines lines ≡ sheet_damaged values (map damage_of lines)
unfolding joined_lines sheet_damaged
lines-made values [] made = refl
lines-made values (line ∷ lines) made =
    λ j. sym (made 0 (omega arith)) j ++ (lf ∷ lines-made values lines (λ i h. made (suc i) (omega arith)) j)

-- their names are counted as the sheet's are

abbrev names : List (List ℕ) → List ℕ
names lines = map (λ d. d.name) (map damage_of lines)

names-counted : (k : ℕ) (lines : List (List ℕ)) → count_of k (names lines) ≡ times_named k lines
unfolding times_named
names-counted k [] = refl
names-counted k (line ∷ lines) = ap (λ (n : ℕ). pick (eqb (number_in line) k) 1 0 + n) (names-counted k lines)

names-low : (lines : List (List ℕ)) → every (λ x. ltb x (name_count + 1)) (names lines) ≡ true
names-low [] = refl
names-low (line ∷ lines) = both_true (lt-ltb (number_in line) (name_count + 1) (number-top (name_in line))) (names-low lines)

form-low : (two : Bool) → every (λ x. ltb x (name_count + 1)) (names_of_form two) ≡ true
unfolding names_from has_name
form-low true = refl
form-low false = refl

any_order : (lines : List (List ℕ)) → names_right lines ≡ true → OfForm (is_form_two lines) (map damage_of lines)
any_order lines e =
    let two = is_form_two lines in
    counted-order (names_of_form two) (names lines)
    (λ k. ⊎_elim (λ l. named-once two k l ∙ sym (right-times lines e k l) ∙ sym (names-counted k lines))
    (λ l. count-above (name_count + 1) k (names_of_form two) l (form-low two) ∙ sym (count-above (name_count + 1) k (names lines) l (names-low lines)))
    (lt-or-le k (name_count + 1)))

-- so an accepted text is a good record with these faults
made-from : (text : List ℕ) → AcceptedSheet text → MadeFrom text
made-from text a =
    record {
      two = two;
      number = m.number;
      fields = m.fields;
      key = m.key;
      good = good two refl;
      lines = map damage_of lines;
      order = any_order lines r.names;
      is = sym (lines-joined text r.ended) ∙ lines-made (value_said m.number m.fields m.key) lines made;
    }
  where
    m : GoodText (text_mended (lines_of text))
    m = a.mended

    r : RightSheet text
    r = right-sheet text a.names

    lines : List (List ℕ)
    lines = lines_of text

    two : Bool
    two = is_form_two lines

    good : (t : Bool) → two ≡ t → Good t m.number m.fields m.key
    good true e = m.good
    good false e = let z = gained-zero text a e in of-form true false m.good z.0 z.1

    made : (i : ℕ) → i < length lines → line_damaged (value_said m.number m.fields m.key) (damage_of (get_or lines i [])) ≡ get_or lines i []
    made i h =
        let line = get_or lines i [] in
        let s = line-said text a i h in
        let named : name_in line ≡ name_text (number_in line) = numbered (name_in line) s.0 in
        line_made line (named-equals line (number_in line) s.0 named) (value_said m.number m.fields m.key) named s.1

pub exactly-these : (text : List ℕ) → (mend_refusal text ≡ done) ↔ (MadeFrom text × (length text ≤ most_bytes))
exactly-these text = (
  λ e. let a = accepted text e in (made-from text a, (right-sheet text a.names).short),
  λ o.
      let m = o.0 in
      let size : length (sheet_damaged (value_said m.number m.fields m.key) m.lines) ≤ most_bytes =
      subst (λ (t : List ℕ). length t ≤ most_bytes) m.is o.1 in
      ap mend_refusal m.is ∙ damaged-accepted m.two m.number m.fields m.key m.good m.lines m.order size,
)
