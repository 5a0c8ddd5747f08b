-- `inv_parts::mix_schedule_back`: `Filled` to i, and from i on the words are as they were. Assumes nothing.
use mathlib.Core.Path.{◌≡◌}
use Prim.Native.Nat.{ℕ, ◌-◌, ◌≤◌}
use lib.ListN.{get_or}
use Rattle.laws.specs.Lists.{Filled}
use Rattle.inv_parts.specs.Schedule.{mixed_back}
use Rattle.inv_parts.proofs.mix_schedule_back.Given as goal

abbrev pub invariant-loop-i : goal.invariant-loop-i
invariant-loop-i l = ((8 ≤ l.i) × (l.i ≤ 112)) × (Filled (λ k. mixed_back k (get_or l.initial.w k 0)) 0 120 l.w l.i × ((k : ℕ) → l.i ≤ k → get_or l.w k 0 ≡ get_or l.initial.w k 0))

abbrev pub decreases-loop-i : goal.decreases-loop-i
decreases-loop-i l = 112 - l.i
