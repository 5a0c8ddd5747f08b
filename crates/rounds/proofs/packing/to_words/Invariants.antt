-- `rounds::packing::to_words`: word by word, `Packed`. Assumes nothing.
use Prim.Native.Nat.{◌-◌}
use Rattle.laws.specs.Lists.{cell}
use Rattle.rounds.proofs.Columns.{Packed}
use Rattle.rounds.proofs.packing.to_words.Given as goal

abbrev pub invariant-loop-c : goal.invariant-loop-c
invariant-loop-c l = Packed (cell l.s) l.x l.c

abbrev pub decreases-loop-c : goal.decreases-loop-c
decreases-loop-c l = 8 - l.c
