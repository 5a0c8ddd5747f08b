-- Which of document 01's two rules holds of which table of f ("Faults in the scanned tables"), each by one computed test that is carried to
-- every entry. Where a rule does not hold of a table, that is a fact here too, so that nothing leans on it. Assumes nothing.
use mathlib.Core.Path.{◌≡◌, refl, sym, ap, ◌∙◌}
use mathlib.Core.Bool.{Bool, ◌&&◌, not}
use mathlib.Core.List.{List}
use Prim.Native.Nat.{ℕ, ◌+◌, ◌*◌, ◌/◌, ◌%◌, ◌<◌, zero-le}
use native.Mathlib.Nat.{zero-add}
use native.Mathlib.Omega.{arith}
use lib.Dec.{T}
use lib.ListN.{get_or, length}
use Rattle.laws.specs.Lists.{tabulate}
use Rattle.laws.proofs.Different.{different, different-at}
use Rattle.laws.proofs.Lists.{length-tabulate, get_d_tabulate}
use Rattle.laws.proofs.Tests.{all, between, pass-left, pass-right}
use Rattle.algorithms.specs.Combining.{f_tea5, f_tea6, f_tea7}

-- row r of a table, its high halves and its low halves
abbrev entry_at : List ℕ → ℕ → ℕ → ℕ
entry_at f r c = get_or f (16 * r + c) 0

abbrev high_halves : List ℕ → ℕ → List ℕ
high_halves f r = tabulate (λ c. entry_at f r c / 16) 0 16

abbrev low_halves : List ℕ → ℕ → List ℕ
low_halves f r = tabulate (λ c. entry_at f r c % 16) 0 16

-- the row rule at row r: sixteen different high halves and sixteen different low halves
abbrev pub row_passes : List ℕ → ℕ → Bool
row_passes f r = different (high_halves f r) && different (low_halves f r)

abbrev pub all_rows_pass : List ℕ → Bool
all_rows_pass f = all (row_passes f) 0 16

-- what the tests say of the entries

pub record RowRule (f : List ℕ) : Type 0 where
  pub high : (r c d : ℕ) → r < 16 → c < 16 → d < 16 → entry_at f r c / 16 ≡ entry_at f r d / 16 → c ≡ d
  pub low : (r c d : ℕ) → r < 16 → c < 16 → d < 16 → entry_at f r c % 16 ≡ entry_at f r d % 16 → c ≡ d

abbrev pub NoValueTwice : List ℕ → Type 0
NoValueTwice f = (x y : ℕ) → x < 256 → y < 256 → get_or f x 0 ≡ get_or f y 0 → x ≡ y

-- sixteen values that pass the test are different wherever two of them are equal
half-rule : (g : ℕ → ℕ) → T (different (tabulate g 0 16)) → (c d : ℕ) → c < 16 → d < 16 → g c ≡ g d → c ≡ d
half-rule g t c d hc hd e =
    let long : length (tabulate g 0 16) ≡ 16 = length-tabulate g 0 16 in
    different-at (tabulate g 0 16) t c d (omega arith) (omega arith) (at c hc ∙ e ∙ sym (at d hd))
  where
    at : (k : ℕ) → k < 16 → get_or (tabulate g 0 16) k 0 ≡ g k
    at k h = get_d_tabulate g 0 16 k 0 h ∙ ap g (zero-add k)

row-rule : (f : List ℕ) → T (all_rows_pass f) → RowRule f
row-rule f t =
    record {
      high = λ r c d hr. half-rule (λ k. entry_at f r k / 16) (pass-left (different (high_halves f r)) (different (low_halves f r)) (row r hr)) c d;
      low = λ r c d hr. half-rule (λ k. entry_at f r k % 16) (pass-right (different (high_halves f r)) (different (low_halves f r)) (row r hr)) c d;
    }
  where
    row : (r : ℕ) → r < 16 → T (row_passes f r)
    row r h = between (row_passes f) 0 16 t r zero-le h

no-value-twice : (f : List ℕ) → length f ≡ 256 → T (different f) → NoValueTwice f
no-value-twice f long t x y hx hy e = different-at f t x y (omega arith) (omega arith) e

-- TEA5 and TEA6 keep both rules

pub tea5-row-rule : RowRule f_tea5
unfolding f_tea5 tabulate
tea5-row-rule = row-rule f_tea5 tt

pub tea5-no-value-twice : NoValueTwice f_tea5
unfolding f_tea5
tea5-no-value-twice = no-value-twice f_tea5 refl tt

pub tea6-row-rule : RowRule f_tea6
unfolding f_tea6 tabulate
tea6-row-rule = row-rule f_tea6 tt

pub tea6-no-value-twice : NoValueTwice f_tea6
unfolding f_tea6
tea6-no-value-twice = no-value-twice f_tea6 refl tt

-- TEA7 has no value twice, and no row of it keeps the row rule

pub tea7-no-value-twice : NoValueTwice f_tea7
unfolding f_tea7
tea7-no-value-twice = no-value-twice f_tea7 refl tt

pub tea7-no-row-passes : (r : ℕ) → r < 16 → T (not (row_passes f_tea7 r))
unfolding f_tea7 tabulate
tea7-no-row-passes r h = between (λ k. not (row_passes f_tea7 k)) 0 16 tt r zero-le h

-- for instance, 0x00 and 0x01 have the same low half, so that the mode value alone does not tell one from the other
pub tea7-row-rule-fails : RowRule f_tea7 → ⊥
unfolding f_tea7
tea7-row-rule-fails rule = let e : ◌≡◌ {A = ℕ} 0 1 = rule.low 0 0 1 (omega arith) (omega arith) (omega arith) refl in omega arith
