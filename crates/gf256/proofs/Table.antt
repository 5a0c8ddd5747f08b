-- The rule of a table of 256 numbers, by one computed test over all its entries. Assumes nothing.
use mathlib.Core.List.{List}
use mathlib.Core.Path.{◌≡◌, sym, ap, ◌∙◌}
use Prim.Native.Nat.{ℕ, zero-le}
use native.Mathlib.Nat.{zero-add}
use lib.Dec.{T, eqb}
use lib.ListN.{length, get_or}
use Rattle.laws.specs.Lists.{tabulate}
use Rattle.laws.proofs.Lists.{tabulate-ext}
use Rattle.laws.proofs.Tests.{all, agree}

-- a list that was tested at each of its 256 entries to be f there is the table of f
pub table_of : (entries : List ℕ) (f : ℕ → ℕ) → length entries ≡ 256 → T (all (λ k. eqb (get_or entries k 0) (f k)) 0 256) → entries ≡ tabulate f 0 256
table_of entries f long test =
    tabulate-ext f 0 256 0 entries long (λ k h. agree (λ j. get_or entries j 0) f 0 256 test k zero-le h ∙ ap f (sym (zero-add k)))
