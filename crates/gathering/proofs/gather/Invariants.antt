-- `gathering::gather`: what is left to gather stays the same with each record. Assumes nothing.
use Rattle.std.proofs.Common.{◌≡◌, length}
use Rattle.gathering.specs.Gathering.{gather_on, gathered}
use Rattle.gathering.proofs.gather.Given as goal

abbrev pub invariant-loop-rest : goal.invariant-loop-rest
invariant-loop-rest l = gathered l.fn.text ≡ gather_on l.table l.rest

abbrev pub decreases-loop-rest : goal.decreases-loop-rest
decreases-loop-rest l = length l.rest
