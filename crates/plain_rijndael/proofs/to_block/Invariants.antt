-- `plain_rijndael::to_block`: byte by byte, `Filled`. Assumes nothing.
use Prim.Native.Nat.{◌-◌, ◌/◌, ◌%◌}
use Rattle.laws.specs.Lists.{cell, Filled}
use Rattle.plain_rijndael.proofs.to_block.Given as goal

abbrev pub invariant-loop-k : goal.invariant-loop-k
invariant-loop-k l = Filled (λ j. cell l.s (j % 4) (j / 4)) 0 32 l.b l.k

abbrev pub decreases-loop-k : goal.decreases-loop-k
decreases-loop-k l = 32 - l.k
