-- `plain_schedule::round_constant`: one doubling a turn. Assumes nothing.
use mathlib.Core.Path.{◌≡◌}
use Prim.Native.Nat.{◌-◌, ◌≤◌}
use Rattle.schedule.specs.Schedule.{round_constant}
use Rattle.plain_schedule.proofs.round_constant.Given as goal

abbrev pub invariant-loop : goal.invariant-loop
invariant-loop l = (l.counter ≤ l.n) × (l.c ≡ round_constant l.counter)

abbrev pub decreases-loop : goal.decreases-loop
decreases-loop l = l.n - l.counter
