-- The names of a sheet are not right where one is missing, doubled or unknown for the form. Assumes nothing.
use mathlib.Core.Bool.{Bool, true, false, not, true≢false, false≢true, ◌&&◌, ◌||◌}
use mathlib.Core.Logic.{◌⊎◌, inl, inr, ⊎_elim}
use mathlib.Core.List.{List}
use mathlib.Core.Path.{◌≡◌, refl, sym, ap, subst, ◌∙◌}
use Prim.Native.Nat.{ℕ, zero, suc, ◌+◌, ◌≤◌, ◌<◌}
use native.Mathlib.Omega.{arith}
use lib.Dec.{eqb, ltb}
use lib.ListN.{length}
use borrow.Author.Tests.{eqb-true, eqb-false, ltb-true, ltb-false, not-false}
use Rattle.laws.specs.Choice.{pick}
use Rattle.laws.proofs.Cases.{and_left, and_right, lt-or-le, neither}
use Rattle.writing.specs.Text.{lf}
use Rattle.line_parts.specs.Line.{ends_with}
use Rattle.line_names.specs.Names.{name_text, name_count, name_number, has_name}
use Rattle.sheet_faults.specs.Sheet.{times_named, is_form_two, names_right_from, names_right, lines_of, most_bytes, sheet_bad}
use Rattle.mends.specs.Refused.{name_at, OfWhichForm, Missing, Doubled, Unknown}
use Rattle.mends.proofs.Sheets.{number-named}
use Rattle.mends.proofs.Names.{numbered, number-top, number_at, some-place, two-places, one-counts, two-count}
use Rattle.mends.proofs.Wanted.{has-known}

-- a line has the name of a number where its number is this one

line-number : (lines : List (List ℕ)) (k : ℕ) → k < name_count → (i : ℕ) → name_at lines i ≡ name_text k → number_at lines i ≡ k
line-number lines k h i e = ap name_number e ∙ number-named k h

line-named : (lines : List (List ℕ)) (k : ℕ) → k < name_count → (i : ℕ) → number_at lines i ≡ k → name_at lines i ≡ name_text k
line-named lines k h i e = numbered (name_at lines i) (omega arith) ∙ ap name_text e

-- the form of a sheet is 2 where a line has the name `form`
pub which-form : (lines : List (List ℕ)) → OfWhichForm (is_form_two lines) lines
unfolding is_form_two name_text
which-form lines = go (ltb 0 (times_named 0 lines)) refl
  where
    go : (t : Bool) → ltb 0 (times_named 0 lines) ≡ t → OfWhichForm t lines
    go true e =
        let o = some-place 0 lines (ltb-true 0 (times_named 0 lines) e) in
        record { place = o.place; within = o.within; is = line-named lines 0 (omega arith) o.place o.is }
    go false e =
        λ o. omega (arith, ltb-false 0 (times_named 0 lines) e, one-counts 0 lines o.place o.within (line-number lines 0 (omega arith) o.place o.is))

-- names are right where each number is counted as often as the form wants it

abbrev wanted : Bool → ℕ → ℕ
wanted two k = pick (has_name two k) 1 0

right-from : (two : Bool) (lines : List (List ℕ)) (n k j : ℕ) → names_right_from two lines k n ≡ true → k ≤ j → j < k + n → times_named j lines ≡ wanted two j
unfolding names_right_from
right-from two lines zero k j e g h = absurd (omega arith)
right-from two lines (suc n) k j e g h =
    ⊎_elim (λ l. right-from two lines n (k + 1) j (and_right (eqb (times_named k lines) (wanted two k)) (names_right_from two lines (k + 1) n) e) (omega arith) (omega arith))
    (λ l. let z : k ≡ j = omega arith in
    subst (λ (m : ℕ). times_named m lines ≡ wanted two m) z
    (eqb-true (times_named k lines) (wanted two k) (and_left (eqb (times_named k lines) (wanted two k)) _ e)))
    (lt-or-le k j)

pub right-times : (lines : List (List ℕ)) → names_right lines ≡ true → (k : ℕ) → k < name_count + 1 → times_named k lines ≡ wanted (is_form_two lines) k
unfolding names_right
right-times lines e k h = right-from (is_form_two lines) lines (name_count + 1) 0 k e (omega arith) (omega arith)

-- and where they are not, some number is not
record Wrong (two : Bool) (lines : List (List ℕ)) : Type 0 where
  number : ℕ
  known : number < name_count + 1
  no-times : times_named number lines ≡ wanted two number → ⊥

wrong-from : (two : Bool) (lines : List (List ℕ)) (n k : ℕ) → k + n ≤ name_count + 1 → names_right_from two lines k n ≡ false → Wrong two lines
unfolding names_right_from
wrong-from two lines zero k h e = absurd (true≢false e)
wrong-from two lines (suc n) k h e = go (eqb (times_named k lines) (wanted two k)) refl e (wrong-from two lines n (k + 1) (omega arith))
  where
    go : (t : Bool) → eqb (times_named k lines) (wanted two k) ≡ t → t && names_right_from two lines (k + 1) n ≡ false
        → (names_right_from two lines (k + 1) n ≡ false → Wrong two lines) → Wrong two lines
    go true s e rec = rec e
    go false s e rec = record { number = k; known = omega arith; no-times = eqb-false (times_named k lines) (wanted two k) s }

-- so a name is missing, doubled or unknown

abbrev pub NamesBad : List (List ℕ) → Type 0
NamesBad lines = Missing (is_form_two lines) lines ⊎ (Doubled lines ⊎ Unknown (is_form_two lines) lines)

pub names-bad : (lines : List (List ℕ)) → names_right lines ≡ false → NamesBad lines
unfolding names_right
names-bad lines e = go (wrong-from (is_form_two lines) lines (name_count + 1) 0 (omega arith) e)
  where
    two : Bool
    two = is_form_two lines

    lacking : (k : ℕ) → has_name two k ≡ true → times_named k lines ≡ 0 → Missing two lines
    lacking k w z =
        record {
          number = k;
          wanted = w;
          none = λ o. omega (arith, one-counts k lines o.place o.within (line-number lines k (has-known two k w) o.place o.is));
        }

    twice : (k : ℕ) → has_name two k ≡ true → 1 < times_named k lines → Doubled lines
    twice k w z =
        let o = two-places k lines z in
        let h = has-known two k w in
        record {
          first = o.first;
          second = o.second;
          apart = o.apart;
          within = o.within;
          same = line-named lines k h o.first o.one ∙ sym (line-named lines k h o.second o.other);
        }

    strange : (k : ℕ) → has_name two k ≡ false → 0 < times_named k lines → Unknown two lines
    strange k w z =
        let o = some-place k lines z in
        record {
          place = o.place;
          within = o.within;
          none = λ j v s.
              let same : k ≡ j = sym o.is ∙ line-number lines j (has-known two j v) o.place s in
              false≢true (sym w ∙ ap (has_name two) same ∙ v);
        }

    go : Wrong two lines → NamesBad lines
    go r = by (has_name two r.number) refl
      where
        k : ℕ
        k = r.number

        by : (t : Bool) → has_name two k ≡ t → NamesBad lines
        by true w =
            let not-one : times_named k lines ≡ 1 → ⊥ = λ z. r.no-times (z ∙ ap (λ (t : Bool). pick t 1 0) (sym w)) in
            ⊎_elim (λ l. inl (lacking k w (omega arith))) (λ l. inr (inl (twice k w (omega arith)))) (lt-or-le (times_named k lines) 1)
        by false w =
            let some : times_named k lines ≡ 0 → ⊥ = λ z. r.no-times (z ∙ ap (λ (t : Bool). pick t 1 0) (sym w)) in
            inr (inr (strange k w (omega arith)))

-- and of such names none is right

pub names-wrong : (lines : List (List ℕ)) → NamesBad lines → names_right lines ≡ true → ⊥
names-wrong lines (inl m) e =
    let h = has-known (is_form_two lines) m.number m.wanted in
    let once : times_named m.number lines ≡ 1 =
    right-times lines e m.number (omega arith) ∙ ap (λ (t : Bool). pick t 1 0) m.wanted in
    let o = some-place m.number lines (omega arith) in
    m.none (record { place = o.place; within = o.within; is = line-named lines m.number h o.place o.is })
names-wrong lines (inr (inl d)) e =
    let k = number_at lines d.second in
    omega (
      arith,
      two-count k lines d.first d.second d.apart d.within (ap name_number d.same) refl,
      right-times lines e k (number-top (name_at lines d.second)),
      at_most_one (has_name (is_form_two lines) k),
    )
  where
    at_most_one : (t : Bool) → pick t 1 0 ≤ 1
    at_most_one true = omega arith
    at_most_one false = omega arith
names-wrong lines (inr (inr u)) e = go (has_name (is_form_two lines) k) refl
  where
    k : ℕ
    k = number_at lines u.place

    go : (t : Bool) → has_name (is_form_two lines) k ≡ t → ⊥
    go true w = u.none k w (line-named lines k (has-known (is_form_two lines) k w) u.place refl)
    go false w =
        omega (
          arith,
          one-counts k lines u.place u.within refl,
          right-times lines e k (number-top (name_at lines u.place)) ∙ ap (λ (t : Bool). pick t 1 0) w,
        )

-- what a sheet has that is not refused with 25
pub record RightSheet (text : List ℕ) : Type 0 where
  pub short : length text ≤ most_bytes
  pub ended : ends_with lf text ≡ true
  pub names : names_right (lines_of text) ≡ true

pub right-sheet : (text : List ℕ) → sheet_bad text ≡ false → RightSheet text
unfolding sheet_bad
right-sheet text e =
    let p = neither (ltb most_bytes (length text)) (not (ends_with lf text) || not (names_right (lines_of text))) e in
    let q = neither (not (ends_with lf text)) (not (names_right (lines_of text))) p.1 in
    record {
      short = ltb-false most_bytes (length text) p.0;
      ended = not-false (ends_with lf text) q.0;
      names = not-false (names_right (lines_of text)) q.1;
    }
