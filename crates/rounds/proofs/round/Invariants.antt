-- `rounds::round`: column by column, `by_half`: each is its mixed word with the key. Assumes nothing.
use Prim.Native.Nat.{◌-◌, ◌*◌}
use Rattle.laws.proofs.States.{Placed}
use Rattle.rounds.proofs.Columns.{by_half, rounded}
use Rattle.rounds.proofs.round.Given as goal

abbrev pub invariant-loop-e : goal.invariant-loop-e
invariant-loop-e l = Placed by_half (rounded l.w l.n l.s) l.t (4 * l.e)

abbrev pub decreases-loop-e : goal.decreases-loop-e
decreases-loop-e l = 8 - l.e
