-- `rijndael::to_block`: four entries a turn, `Filled`. Assumes nothing.
use Prim.Native.Nat.{◌-◌, ◌*◌, ◌/◌, ◌%◌}
use Rattle.laws.specs.Lists.{cell, Filled}
use Rattle.rijndael.proofs.to_block.Given as goal

abbrev pub invariant-loop-c : goal.invariant-loop-c
invariant-loop-c l = Filled (λ k. cell l.s (k % 4) (k / 4)) 0 32 l.b (4 * l.c)

abbrev pub decreases-loop-c : goal.decreases-loop-c
decreases-loop-c l = 8 - l.c
