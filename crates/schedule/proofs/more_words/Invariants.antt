-- `schedule::more_words`: `Filled` to 6 k, whatever the key, and `last` is word 6 k - 1. Assumes nothing.
use mathlib.Core.List.{List}
use mathlib.Core.Path.{◌≡◌}
use Prim.Native.Nat.{ℕ, ◌-◌, ◌*◌, ◌≤◌}
use lib.ListN.{get_or}
use Rattle.schedule.specs.Schedule.{key_word}
use Rattle.laws.specs.Lists.{Filled}
use Rattle.schedule.proofs.more_words.Given as goal

abbrev pub invariant-loop-k : goal.invariant-loop-k
invariant-loop-k l =
    (1 ≤ l.k) × (l.k ≤ 20) × (l.last ≡ get_or l.w (6 * l.k - 1) 0) × ((key : List ℕ) → Filled (key_word key) 0 120 l.initial.w 6 → Filled (key_word key) 0 120 l.w (6 * l.k))

abbrev pub decreases-loop-k : goal.decreases-loop-k
decreases-loop-k l = 20 - l.k
