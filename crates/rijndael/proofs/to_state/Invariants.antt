-- `rijndael::to_state`: column by column, `Columns`. Assumes nothing.
use Prim.Native.Nat.{◌+◌, ◌-◌, ◌*◌}
use lib.ListN.{get_or}
use Rattle.laws.proofs.States.{Columns}
use Rattle.rijndael.proofs.to_state.Given as goal

abbrev pub invariant-loop-c : goal.invariant-loop-c
invariant-loop-c l = Columns (λ r k. get_or l.b (4 * k + r) 0) l.t l.c

abbrev pub decreases-loop-c : goal.decreases-loop-c
decreases-loop-c l = 8 - l.c
