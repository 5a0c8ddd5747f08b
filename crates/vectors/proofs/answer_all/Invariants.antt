-- `answer_all` ends, since each line takes some bytes of what is left.
use Rattle.std.proofs.Common.{◌≡◌, length}
use Rattle.vectors.proofs.answer_all.Given as goal

abbrev pub invariant-loop-rest : goal.invariant-loop-rest
invariant-loop-rest g l = length l.out ≡ length l.initial.out

abbrev pub decreases-loop-rest : goal.decreases-loop-rest
decreases-loop-rest g l = length l.rest
