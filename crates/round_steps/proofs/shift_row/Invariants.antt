-- `round_steps::shift_row`: column by column, `Columns`; row 0 is stored too, so that one law serves. Assumes nothing.
use Prim.Native.Nat.{◌+◌, ◌-◌, ◌%◌}
use Rattle.round_steps.specs.Steps.{shift_of}
use Rattle.laws.proofs.States.{Columns}
use Rattle.laws.specs.Lists.{cell}
use Rattle.round_steps.proofs.shift_row.Given as goal

abbrev pub invariant-loop-c : goal.invariant-loop-c
invariant-loop-c l = Columns (λ r k. cell l.s r ((k + shift_of r) % 8)) l.t l.c

abbrev pub decreases-loop-c : goal.decreases-loop-c
decreases-loop-c l = 8 - l.c
