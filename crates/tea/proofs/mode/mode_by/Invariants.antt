-- `tea::mode::mode_by`: both lists are filled side by side. Assumes nothing.
use Prim.Native.Nat.{◌-◌}
use Rattle.tea.proofs.Halves.{Halves}
use Rattle.tea.proofs.mode.mode_by.Given as goal

abbrev pub invariant-loop-k : goal.invariant-loop-k
invariant-loop-k l = Halves l.f l.ck l.ivx l.ckm l.ivm l.k

abbrev pub decreases-loop-k : goal.decreases-loop-k
decreases-loop-k l = 24 - l.k
