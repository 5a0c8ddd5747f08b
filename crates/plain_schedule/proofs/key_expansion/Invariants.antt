-- `plain_schedule::key_expansion`: the words below i are right. Assumes nothing.
use mathlib.Core.Path.{◌≡◌}
use Prim.Native.Nat.{◌-◌, ◌≤◌}
use lib.ListN.{length}
use Rattle.plain_schedule.proofs.Words.{Expanded}
use Rattle.plain_schedule.proofs.key_expansion.Given as goal

abbrev pub invariant-loop-i : goal.invariant-loop-i
invariant-loop-i l = (l.i ≤ 120) × ((length l.w ≡ 120) × Expanded l.key l.w l.i)

abbrev pub decreases-loop-i : goal.decreases-loop-i
decreases-loop-i l = 120 - l.i
