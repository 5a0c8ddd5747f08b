-- `rounds::packing::from_words`: column by column, `Columns`. Assumes nothing.
use Prim.Native.Nat.{◌-◌}
use lib.ListN.{get_or}
use Rattle.laws.proofs.States.{Columns}
use Rattle.words.specs.Words.{byte_of}
use Rattle.rounds.proofs.packing.from_words.Given as goal

abbrev pub invariant-loop-c : goal.invariant-loop-c
invariant-loop-c l = Columns (λ r k. byte_of (get_or l.x k 0) r) l.t l.c

abbrev pub decreases-loop-c : goal.decreases-loop-c
decreases-loop-c l = 8 - l.c
