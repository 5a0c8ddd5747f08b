-- One text after the other: the next one, and none. Assumes nothing.
use mathlib.Core.Path.{◌≡◌, ap}
use mathlib.Core.List.{List, [], ◌++◌}
use Prim.Native.Nat.{ℕ, suc, ◌+◌, ◌-◌, ◌<◌, ◌≤◌}
use native.Mathlib.Omega.{arith}
use Rattle.month_sheet.specs.Sheet.{texts}

module _ (text : ℕ → List ℕ) (i last : ℕ) where
  pub texts-next : i < last → texts text i (last - i) ≡ text i ++ texts text (i + 1) (last - (i + 1))
  unfolding texts
  texts-next h =
      let z : last - i ≡ suc (last - (i + 1)) = omega arith in
      ap (texts text i) z

  pub texts-none : last ≤ i → texts text i (last - i) ≡ []
  unfolding texts
  texts-none h =
      let z : last - i ≡ 0 = omega arith in
      ap (texts text i) z
