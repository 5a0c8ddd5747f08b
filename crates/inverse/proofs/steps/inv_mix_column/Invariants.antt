-- `inverse::steps::inv_mix_column`: column by column, `Columns`. Assumes nothing.
use Prim.Native.Nat.{◌+◌, ◌-◌, ◌%◌}
use Rattle.inv_bytes.specs.Bytes.{inv_mixed_byte}
use Rattle.laws.proofs.States.{Columns}
use Rattle.laws.specs.Lists.{cell}
use Rattle.inverse.proofs.steps.inv_mix_column.Given as goal

abbrev pub invariant-loop-c : goal.invariant-loop-c
invariant-loop-c l = Columns (λ r k. inv_mixed_byte (cell l.s r k) (cell l.s ((r + 1) % 4) k) (cell l.s ((r + 2) % 4) k) (cell l.s ((r + 3) % 4) k)) l.t l.c

abbrev pub decreases-loop-c : goal.decreases-loop-c
decreases-loop-c l = 8 - l.c
