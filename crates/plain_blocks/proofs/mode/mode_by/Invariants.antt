-- `plain_blocks::mode::mode_by`: both lists are filled side by side; byte k of the mixed value is b[20 + k]. Assumes nothing.
use Prim.Native.Nat.{◌-◌}
use Rattle.tea.specs.Mixing.{mixed_value}
use Rattle.tea.proofs.Halves.{Halves}
use Rattle.plain_blocks.proofs.mode.mode_by.Given as goal

abbrev pub invariant-loop-k : goal.invariant-loop-k
invariant-loop-k l = Halves l.f l.ck (mixed_value l.iv) l.ckm l.ivm l.k

abbrev pub decreases-loop-k : goal.decreases-loop-k
decreases-loop-k l = 24 - l.k
