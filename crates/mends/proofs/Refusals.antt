-- A sheet is refused with 25 exactly where it is longer, its last line has no LF, or a name is missing, doubled or unknown for the form; with 26
-- exactly where it is not, and its mended text is no good form 2 record. Assumes nothing.
use mathlib.Core.Bool.{Bool, true, false, not, true≢false, false≢true, ◌||◌}
use mathlib.Core.Logic.{◌⊎◌, inl, inr, ⊎_elim, ◌↔◌}
use mathlib.Core.List.{List, [], ◌∷◌, ◌++◌}
use mathlib.Core.Path.{◌≡◌, refl, sym, ap, ◌∙◌}
use Prim.Native.Nat.{ℕ, ◌+◌, ◌-◌}
use native.Mathlib.Omega.{arith}
use lib.Dec.{ltb}
use lib.ListN.{length, take}
use borrow.Author.Tests.{ltb-true}
use Rattle.writing.specs.Text.{lf}
use Rattle.refusals.specs.Numbers.{done, refuse}
use Rattle.line_parts.specs.Line.{ends_with}
use Rattle.sheet_faults.specs.Sheet.{lines_of, names_right, most_bytes, sheet_bad}
use Rattle.mended_text.specs.Text.{text_mended}
use Rattle.mending.specs.Changes.{is_record}
use Rattle.mending.specs.Answer.{mend_refusal, sheet_names_bad, sheet_value_bad}
use Rattle.mends.specs.Accepted.{GoodText}
use Rattle.mends.specs.Refused.{BadSheet, long, unended, missing, doubled, unknown}
use Rattle.mends.proofs.Bytes.{ends-after, ends-split}
use Rattle.mends.proofs.Printed.{accepted, taken, record-is-good, good-is-record, says-form}
use Rattle.mends.proofs.BadNames.{RightSheet, right-sheet, NamesBad, names-bad, names-wrong}

-- a text that ends with LF
front-ended : (front : List ℕ) → ends_with lf (front ++ (lf ∷ [])) ≡ true
unfolding ends_with
front-ended front = ends-after lf front (lf ∷ []) (omega arith)

pub is-bad : (text : List ℕ) → sheet_bad text ≡ true → BadSheet text
unfolding sheet_bad
is-bad text e = go (ltb most_bytes (length text)) (ends_with lf text) (names_right (lines_of text)) refl refl refl e
  where
    go : (l w n : Bool) → ltb most_bytes (length text) ≡ l → ends_with lf text ≡ w → names_right (lines_of text) ≡ n → l || (not w || not n) ≡ true → BadSheet text
    go true w n i j k e = long (ltb-true most_bytes (length text) i)
    go false false n i j k e =
        unended (λ front z. let y : ◌≡◌ {A = Bool} true false = sym (front-ended front) ∙ ap (ends_with lf) (sym z) ∙ j in true≢false y)
    go false true true i j k e = absurd (false≢true e)
    go false true false i j k e = ⊎_elim missing (λ o. ⊎_elim doubled unknown o) (names-bad (lines_of text) k)

pub not-bad : (text : List ℕ) → sheet_bad text ≡ false → BadSheet text → ⊥
not-bad text e b = go b
  where
    r : RightSheet text
    r = right-sheet text e

    names : NamesBad (lines_of text) → ⊥
    names o = names-wrong (lines_of text) o r.names

    go : BadSheet text → ⊥
    go (long h) = omega (arith, r.short)
    go (unended n) = n (take (length text - 1) text) (ends-split lf text r.ended)
    go (missing m) = names (inl m)
    go (doubled d) = names (inr (inl d))
    go (unknown u) = names (inr (inr u))

yes-bad : (text : List ℕ) → BadSheet text → sheet_bad text ≡ true
yes-bad text b = go (sheet_bad text) refl
  where
    go : (t : Bool) → sheet_bad text ≡ t → t ≡ true
    go true e = refl
    go false e = absurd (not-bad text e b)

pub no-bad : (text : List ℕ) → (BadSheet text → ⊥) → sheet_bad text ≡ false
no-bad text n = go (sheet_bad text) refl
  where
    go : (t : Bool) → sheet_bad text ≡ t → t ≡ false
    go true e = absurd (n (is-bad text e))
    go false e = refl

is-record : (text : List ℕ) → GoodText (text_mended (lines_of text)) → is_record (text_mended (lines_of text)) ≡ true
is-record text g = ap is_record g.is ∙ good-is-record g.number g.fields g.key g.good

no_record : (text : List ℕ) → (GoodText (text_mended (lines_of text)) → ⊥) → is_record (text_mended (lines_of text)) ≡ false
no_record text n = go (is_record (text_mended (lines_of text))) refl
  where
    go : (t : Bool) → is_record (text_mended (lines_of text)) ≡ t → t ≡ false
    go true e = absurd (n (record-is-good (text_mended (lines_of text)) (says-form (lines_of text)) e))
    go false e = refl

-- THE REFUSALS

abbrev answer_of : Bool → Bool → ℕ
answer_of bad good = refuse bad 25 (refuse (not good) 26 0)

-- no text is refused with another number
pub one_of_three : (text : List ℕ) → (mend_refusal text ≡ done) ⊎ ((mend_refusal text ≡ sheet_names_bad) ⊎ (mend_refusal text ≡ sheet_value_bad))
unfolding mend_refusal
one_of_three text = go (sheet_bad text) (is_record (text_mended (lines_of text)))
  where
    go : (b r : Bool) → (answer_of b r ≡ 0) ⊎ ((answer_of b r ≡ 25) ⊎ (answer_of b r ≡ 26))
    go true r = inr (inl refl)
    go false true = inl refl
    go false false = inr (inr refl)

-- 25
pub names-refused : (text : List ℕ) → (mend_refusal text ≡ sheet_names_bad) ↔ BadSheet text
unfolding mend_refusal
names-refused text = (λ e. is-bad text (first (sheet_bad text) (is_record (text_mended (lines_of text))) e), λ b. rw (yes-bad text b))
  where
    first : (b r : Bool) → answer_of b r ≡ 25 → b ≡ true
    first true r e = refl
    first false true e = absurd (omega arith)
    first false false e = absurd (omega arith)

-- 26: no 25, and the mended text is no good record
pub value-refused : (text : List ℕ) → (mend_refusal text ≡ sheet_value_bad) ↔ ((BadSheet text → ⊥) × (GoodText (text_mended (lines_of text)) → ⊥))
unfolding mend_refusal
value-refused text = (there, λ n. rw (no-bad text n.0, no_record text n.1))
  where
    second : (b r : Bool) → answer_of b r ≡ 26 → (b ≡ false) × (r ≡ false)
    second true r e = absurd (omega arith)
    second false true e = absurd (omega arith)
    second false false e = (refl, refl)

    there : answer_of (sheet_bad text) (is_record (text_mended (lines_of text))) ≡ 26 → (BadSheet text → ⊥) × (GoodText (text_mended (lines_of text)) → ⊥)
    there e =
        let s = second (sheet_bad text) (is_record (text_mended (lines_of text))) e in
        (not-bad text s.0, λ g. true≢false (sym (is-record text g) ∙ s.1))

-- 0: neither
pub none-refused : (text : List ℕ) → (mend_refusal text ≡ done) ↔ ((BadSheet text → ⊥) × GoodText (text_mended (lines_of text)))
none-refused text = (
  λ e. let a = accepted text e in (not-bad text a.names, a.mended),
  λ n. taken text (record { names = no-bad text n.0; mended = n.1 }),
)
