-- `inverse::steps::inv_byte_sub`: cell by cell. Assumes nothing.
use Prim.Native.Nat.{◌-◌}
use Rattle.inv_bytes.specs.Bytes.{inv_s_box}
use Rattle.laws.proofs.InRows.{InRow, InRows}
use Rattle.laws.specs.Lists.{cell}
use Rattle.inverse.proofs.steps.inv_byte_sub.Given as goal

abbrev pub invariant-loop-c : goal.invariant-loop-c
invariant-loop-c l = InRow (λ k j. inv_s_box (cell l.s k j)) l.t l.r l.c

abbrev pub decreases-loop-c : goal.decreases-loop-c
decreases-loop-c l = 8 - l.c

abbrev pub invariant-loop-r : goal.invariant-loop-r
invariant-loop-r l = InRows (λ k c. inv_s_box (cell l.s k c)) l.t l.r

abbrev pub decreases-loop-r : goal.decreases-loop-r
decreases-loop-r l = 4 - l.r
