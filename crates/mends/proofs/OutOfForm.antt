-- A sheet is refused with 26 exactly where it is not refused with 25 and the value of some line, mended, is still out of form or range.
-- Assumes nothing.
use mathlib.Core.Bool.{Bool, true, false, true≢false}
use mathlib.Core.Logic.{◌⊎◌, ⊎_elim, ◌↔◌}
use mathlib.Core.List.{List, []}
use mathlib.Core.Path.{◌≡◌, refl, sym, ap, subst, ◌∙◌}
use Prim.Native.Nat.{ℕ, ◌<◌}
use native.Mathlib.Omega.{arith}
use lib.ListN.{get_or}
use borrow.Author.Tests.{leb-true, le-leb}
use Rattle.laws.specs.Choice.{pick}
use Rattle.fields.specs.declared.Fields.{Fields}
use Rattle.fields.proofs.Ranges.{between-low, between-high}
use Rattle.writing.specs.Text.{ascii, digits, digits_within}
use Rattle.forms.proofs.Decimals.{between_is}
use Rattle.record_text.specs.Text.{Good}
use Rattle.line_parts.specs.Line.{value_in}
use Rattle.line_names.specs.Names.{name_count, has_name}
use Rattle.sheet_faults.specs.Sheet.{lines_of, times_named, value_named, is_form_two, sheet_bad}
use Rattle.mended_text.specs.Text.{mended_value, gained, value_mended, text_mended}
use Rattle.mending.specs.Answer.{mend_refusal, sheet_value_bad}
use Rattle.mends.specs.Accepted.{GoodText, AcceptedSheet}
use Rattle.mends.specs.Damage.{value_said}
use Rattle.mends.specs.Refused.{BadSheet, NumberIn, GoodValue, BadValue}
use Rattle.mends.proofs.GoodValues.{below-ten}
use Rattle.mends.proofs.Clean.{mended-clean, record-clean}
use Rattle.mends.proofs.Names.{number_at, some-place, value_there}
use Rattle.mends.proofs.BadNames.{right-sheet, right-times}
use Rattle.mends.proofs.Wanted.{has_all}
use Rattle.mends.proofs.Wholes.{lines-whole, values-whole}
use Rattle.mends.proofs.Refusals.{no-bad, value-refused}
use Rattle.mends.proofs.Kept.{line-said}
use Rattle.mends.proofs.GoodOrNot.{decided, all-or-some}

-- the values of a good record are good, and good values make one

good-said : (number : ℕ) (f : Fields) (key : List ℕ) → Good true number f key → (k : ℕ) → k < name_count → GoodValue k (value_said number f key k)
unfolding value_said
good-said number f key g =
    below-ten (λ k. GoodValue k (value_said number f key k)) refl
    (record { thing = number; fits = (between-low 1 number 32 g.slot, between-high 1 number 32 g.slot); is = refl })
    (record { thing = f.version; fits = (omega arith, g.version); is = refl })
    (record { thing = f.algorithm; fits = g.algorithm; is = refl })
    (record { thing = f.usage; fits = g.usage; is = refl })
    (record { thing = f.side; fits = (omega arith, leb-true f.side 1 g.side); is = refl })
    (record { thing = f.place; fits = (omega arith, leb-true f.place 79 g.place); is = refl })
    (record { thing = f.mcc; fits = (omega arith, g.mcc); is = refl })
    (record { thing = f.mnc; fits = (omega arith, g.mnc); is = refl })
    (record { thing = key; fits = (g.size, g.bytes); is = refl })

module _ (lines : List (List ℕ)) (all : (k : ℕ) → k < name_count → GoodValue k (value_mended (is_form_two lines) lines k)) where
  abbrev fields : Fields
  fields =
      record {
        version = (all 2 (omega arith)).thing;
        algorithm = (all 3 (omega arith)).thing;
        usage = (all 4 (omega arith)).thing;
        side = (all 5 (omega arith)).thing;
        place = (all 6 (omega arith)).thing;
        mcc = (all 7 (omega arith)).thing;
        mnc = (all 8 (omega arith)).thing;
      }

  good-made : GoodText (text_mended lines)
  unfolding text_mended value_said
  good-made =
      let n = all 1 (omega arith) in
      let k = all 9 (omega arith) in
      let s = all 5 (omega arith) in
      let p = all 6 (omega arith) in
      record {
        number = n.thing;
        fields = fields;
        key = k.thing;
        good =
            record {
              slot = between_is 1 n.thing 32 n.fits.0 n.fits.1;
              version = (all 2 (omega arith)).fits.1;
              algorithm = (all 3 (omega arith)).fits;
              usage = (all 4 (omega arith)).fits;
              side = le-leb s.thing 1 s.fits.1;
              place = le-leb p.thing 79 p.fits.1;
              mcc = (all 7 (omega arith)).fits.1;
              mnc = (all 8 (omega arith)).fits.1;
              size = k.fits.0;
              bytes = k.fits.1;
            };
        is = mended-clean (value_said n.thing fields k.thing) (is_form_two lines) lines same name_count 0 (omega arith) ∙ record-clean true n.thing fields k.thing;
      }
    where
      same : (k : ℕ) → k < name_count → value_mended (is_form_two lines) lines k ≡ value_said (all 1 (omega arith)).thing fields (all 9 (omega arith)).thing k
      same =
          below-ten (λ k. value_mended (is_form_two lines) lines k ≡ value_said (all 1 (omega arith)).thing fields (all 9 (omega arith)).thing k)
          (all 0 (omega arith))
          (all 1 (omega arith)).is
          (all 2 (omega arith)).is
          (all 3 (omega arith)).is
          (all 4 (omega arith)).is
          (all 5 (omega arith)).is
          (all 6 (omega arith)).is
          (all 7 (omega arith)).is
          (all 8 (omega arith)).is
          (all 9 (omega arith)).is

-- what form 1 gains is good
gained-good : (two : Bool) (k : ℕ) → k < name_count → has_name two k ≡ false → GoodValue k (gained k)
unfolding has_name gained digits digits_within
gained-good true k h e = absurd (true≢false (sym (has_all k h) ∙ e))
gained-good false k h e =
    let zero-good : (high : ℕ) → NumberIn 0 high (ascii "0") = λ high. record { thing = 0; fits = (omega arith, omega arith); is = refl } in
    below-ten (λ k. has_name false k ≡ false → GoodValue k (gained k)) (λ _. refl) there there there there there there
    (λ _. zero-good 1023) (λ _. zero-good 16383) there k h e
  where
    there : {A : Type 0} → ◌≡◌ {A = Bool} true false → A
    there z = absurd (true≢false z)

-- so a value that is not good stands in a line
bad-line : (text : List ℕ) → sheet_bad text ≡ false → (k : ℕ) → k < name_count
    → (GoodValue k (value_mended (is_form_two (lines_of text)) (lines_of text) k) → ⊥) → BadValue (lines_of text)
unfolding value_mended
bad-line text e k h n = go (has_name (is_form_two lines) k) refl
  where
    lines : List (List ℕ)
    lines = lines_of text

    chosen : Bool → List ℕ
    chosen t = pick t (mended_value k (value_named k lines)) (gained k)

    go : (t : Bool) → has_name (is_form_two lines) k ≡ t → BadValue lines
    go false w = absurd (n (subst (λ (t : Bool). GoodValue k (chosen t)) (sym w) (gained-good (is_form_two lines) k h w)))
    go true w =
        let once : times_named k lines ≡ 1 = right-times lines (right-sheet text e).names k (omega arith) ∙ ap (λ (t : Bool). pick t 1 0) w in
        let o = some-place k lines (omega arith) in
        record {
          place = o.place;
          within = o.within;
          none = λ g.
              n (subst (λ (t : Bool). GoodValue k (chosen t)) (sym w)
              (subst (λ (v : List ℕ). GoodValue k (mended_value k v)) (sym (value_there k lines o.place o.within o.is once))
              (subst (λ (m : ℕ). GoodValue m (mended_value m (value_in (get_or lines o.place [])))) o.is g)));
        }

some-bad-line : (text : List ℕ) → sheet_bad text ≡ false → (GoodText (text_mended (lines_of text)) → ⊥) → BadValue (lines_of text)
some-bad-line text e n =
    let two = is_form_two (lines_of text) in
    ⊎_elim (λ all. absurd (n (good-made (lines_of text) all))) (λ o. bad-line text e o.0 o.1 o.2)
    (all-or-some (λ k. GoodValue k (value_mended two (lines_of text) k))
    (λ k h. decided k h (value_mended two (lines_of text) k) (values-whole two (lines_of text) k (lines-whole text))) name_count (omega arith))

no-bad-line : (text : List ℕ) → AcceptedSheet text → BadValue (lines_of text) → ⊥
no-bad-line text a b =
    let l = line-said text a b.place b.within in
    let m = a.mended in
    b.none (subst (GoodValue (number_at (lines_of text) b.place)) (sym l.1) (good-said m.number m.fields m.key m.good _ l.0))

-- 26: no 25, and a line whose value is out of form or range
pub out-of-form : (text : List ℕ) → (mend_refusal text ≡ sheet_value_bad) ↔ ((BadSheet text → ⊥) × BadValue (lines_of text))
out-of-form text = (
  λ e. let r = (value-refused text).0 e in (r.0, some-bad-line text (no-bad text r.0) r.1),
  λ r. (value-refused text).1 (r.0, λ g. no-bad-line text (record { names = no-bad text r.0; mended = g }) r.1),
)
