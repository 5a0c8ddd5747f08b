-- `schedule::key_words`: `Filled` to 6. Assumes nothing.
use Prim.Native.Nat.{◌-◌, ◌≤◌}
use Rattle.schedule.specs.Schedule.{key_word}
use Rattle.laws.specs.Lists.{Filled}
use Rattle.schedule.proofs.key_words.Given as goal

abbrev pub invariant-loop-i : goal.invariant-loop-i
invariant-loop-i l = (l.i ≤ 6) × Filled (key_word l.key) 0 120 l.w l.i

abbrev pub decreases-loop-i : goal.decreases-loop-i
decreases-loop-i l = 6 - l.i
