-- The numbers of names, and how often a name occurs among the lines of a sheet. Assumes nothing.
use mathlib.Core.Bool.{Bool, true, false}
use mathlib.Core.Logic.{◌⊎◌, inl, inr}
use mathlib.Core.List.{List, [], ◌∷◌}
use mathlib.Core.Path.{◌≡◌, refl, sym, ap, ◌∙◌}
use Prim.Native.Nat.{ℕ, zero, suc, ◌+◌, ◌≤◌, ◌<◌}
use native.Mathlib.Omega.{arith}
use lib.Dec.{eqb}
use lib.ListN.{length, get_or}
use borrow.Author.Tests.{eq-eqb, ne_eqb}
use Rattle.laws.specs.Choice.{pick}
use Rattle.laws.proofs.Cases.{eq-or-ne}
use Rattle.line_parts.specs.Line.{value_in}
use Rattle.line_names.specs.Names.{name_text, name_count, same_text, number_from, name_number, number_in}
use Rattle.line_names.proofs.Same.{number-most}
use Rattle.sheet_faults.specs.Sheet.{times_named, value_named}
use Rattle.mends.proofs.Orders.{same-is}

-- a number below ten is that of its name
from_is : (name : List ℕ) (n k j : ℕ) → number_from k n name ≡ j → j < k + n → name ≡ name_text j
unfolding number_from
from_is name zero k j e h = absurd (omega arith)
from_is name (suc n) k j e h = go (same_text name (name_text k)) refl e (from_is name n (k + 1) j)
  where
    go : (t : Bool) → same_text name (name_text k) ≡ t → pick t k (number_from (k + 1) n name) ≡ j
        → (number_from (k + 1) n name ≡ j → j < k + 1 + n → name ≡ name_text j) → name ≡ name_text j
    go true s e rec = same-is name (name_text k) s ∙ ap name_text e
    go false s e rec = rec e (omega arith)

pub numbered : (name : List ℕ) → name_number name < name_count → name ≡ name_text (name_number name)
unfolding name_number
numbered name h = from_is name name_count 0 (name_number name) refl (omega arith)

pub number-top : (name : List ℕ) → name_number name < name_count + 1
number-top name = omega (arith, number-most name)

-- the number of the line at a place
abbrev pub number_at : List (List ℕ) → ℕ → ℕ
number_at lines i = number_in (get_or lines i [])

-- lines of a number at one place, or at two
pub record One (k : ℕ) (lines : List (List ℕ)) : Type 0 where
  pub place : ℕ
  pub within : place < length lines
  pub is : number_at lines place ≡ k

pub record Two (k : ℕ) (lines : List (List ℕ)) : Type 0 where
  pub first : ℕ
  pub second : ℕ
  pub apart : first < second
  pub within : second < length lines
  pub one : number_at lines first ≡ k
  pub other : number_at lines second ≡ k

module _ (k : ℕ) where
  times-here : (line : List ℕ) (lines : List (List ℕ)) → number_in line ≡ k → times_named k (line ∷ lines) ≡ 1 + times_named k lines
  unfolding times_named
  times-here line lines e = rw (eq-eqb (number_in line) k e)

  times-other : (line : List ℕ) (lines : List (List ℕ)) → (number_in line ≡ k → ⊥) → times_named k (line ∷ lines) ≡ times_named k lines
  unfolding times_named
  times-other line lines n = rw (ne_eqb (number_in line) k n) (omega arith)

  times_more : (line : List ℕ) (lines : List (List ℕ)) → times_named k lines ≤ times_named k (line ∷ lines)
  unfolding times_named
  times_more line lines = go (eqb (number_in line) k)
    where
      go : (t : Bool) → times_named k lines ≤ pick t 1 0 + times_named k lines
      go true = omega arith
      go false = omega arith

  -- a number that is counted stands at a place
  pub some-place : (lines : List (List ℕ)) → 0 < times_named k lines → One k lines
  unfolding times_named
  some-place [] h = absurd (omega arith)
  some-place (line ∷ lines) h = go (eq-or-ne (number_in line) k) (some-place lines)
    where
      go : (number_in line ≡ k) ⊎ (number_in line ≡ k → ⊥) → (0 < times_named k lines → One k lines) → One k (line ∷ lines)
      go (inl e) rec = record { place = 0; within = omega arith; is = e }
      go (inr n) rec =
          let o = rec (omega (arith, times-other line lines n, h)) in
          record { place = suc o.place; within = omega (arith, o.within); is = o.is }

  pub two-places : (lines : List (List ℕ)) → 1 < times_named k lines → Two k lines
  unfolding times_named
  two-places [] h = absurd (omega arith)
  two-places (line ∷ lines) h = go (eq-or-ne (number_in line) k) (two-places lines)
    where
      go : (number_in line ≡ k) ⊎ (number_in line ≡ k → ⊥) → (1 < times_named k lines → Two k lines) → Two k (line ∷ lines)
      go (inl e) rec =
          let o = some-place lines (omega (arith, times-here line lines e, h)) in
          record { first = 0; second = suc o.place; apart = omega arith; within = omega (arith, o.within); one = e; other = o.is }
      go (inr n) rec =
          let o = rec (omega (arith, times-other line lines n, h)) in
          record {
            first = suc o.first;
            second = suc o.second;
            apart = omega (arith, o.apart);
            within = omega (arith, o.within);
            one = o.one;
            other = o.other;
          }

  -- and one that stands at a place is counted
  pub one-counts : (lines : List (List ℕ)) (i : ℕ) → i < length lines → number_at lines i ≡ k → 1 ≤ times_named k lines
  one-counts [] i h e = absurd (omega arith)
  one-counts (line ∷ lines) zero h e = omega (arith, times-here line lines e)
  one-counts (line ∷ lines) (suc i) h e = omega (arith, times_more line lines, one-counts lines i (omega arith) e)

  pub two-count : (lines : List (List ℕ)) (i j : ℕ) → i < j → j < length lines → number_at lines i ≡ k → number_at lines j ≡ k → 2 ≤ times_named k lines
  two-count [] i j g h e f = absurd (omega arith)
  two-count (line ∷ lines) i zero g h e f = absurd (omega arith)
  two-count (line ∷ lines) zero (suc j) g h e f = omega (arith, times-here line lines e, one-counts lines j (omega arith) f)
  two-count (line ∷ lines) (suc i) (suc j) g h e f = omega (arith, times_more line lines, two-count lines i j (omega arith) (omega arith) e f)

  -- of a number that stands once, the value is that of its line
  pub value_there : (lines : List (List ℕ)) (i : ℕ) → i < length lines → number_at lines i ≡ k → times_named k lines ≡ 1
      → value_named k lines ≡ value_in (get_or lines i [])
  unfolding value_named
  value_there [] i h e n = absurd (omega arith)
  value_there (line ∷ lines) zero h e n = rw (eq-eqb (number_in line) k e)
  value_there (line ∷ lines) (suc i) h e n = go (eq-or-ne (number_in line) k) (value_there lines i (omega arith) e)
    where
      go : (number_in line ≡ k) ⊎ (number_in line ≡ k → ⊥) → (times_named k lines ≡ 1 → value_named k lines ≡ value_in (get_or lines i []))
          → pick (eqb (number_in line) k) (value_in line) (value_named k lines) ≡ value_in (get_or lines i [])
      go (inl z) rec = absurd (omega (arith, times-here line lines z, one-counts lines i (omega arith) e, n))
      go (inr z) rec = rw (ne_eqb (number_in line) k z) (rec (sym (times-other line lines z) ∙ n))
