-- `rijndael::encrypt`: t is, as a state, rounds 1 to n - 1 of what the loop began with. Assumes nothing.
use mathlib.Core.Path.{◌≡◌}
use Prim.Native.Nat.{◌+◌, ◌-◌, ◌*◌, ◌≤◌}
use lib.ListN.{get_or}
use Rattle.rijndael.specs.Cipher.{rounds}
use Rattle.rounds.specs.Columns.{of_words}
use Rattle.rijndael.proofs.encrypt.Given as goal

abbrev pub invariant-loop-n : goal.invariant-loop-n
invariant-loop-n l = ((1 ≤ l.n) × (l.n ≤ 14)) × ((of_words l.t ≡ rounds l.w (of_words l.initial.t) (l.n - 1)) × (l.pair ≡ get_or l.t 0 0 + get_or l.t 2 0 * 4294967296))

abbrev pub decreases-loop-n : goal.decreases-loop-n
decreases-loop-n l = 14 - l.n
