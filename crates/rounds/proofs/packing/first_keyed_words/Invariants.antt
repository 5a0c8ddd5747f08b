-- `rounds::packing::first_keyed_words`: word by word, `Packed`. Assumes nothing.
use Prim.Native.Nat.{◌-◌}
use Rattle.rounds.proofs.Columns.{Packed, first_keyed}
use Rattle.rounds.proofs.packing.first_keyed_words.Given as goal

abbrev pub invariant-loop-c : goal.invariant-loop-c
invariant-loop-c l = Packed (first_keyed l.w l.s) l.x l.c

abbrev pub decreases-loop-c : goal.decreases-loop-c
decreases-loop-c l = 8 - l.c
