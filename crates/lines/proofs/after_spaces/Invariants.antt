-- `lines::after_spaces`: what is to be left stays the same with each space. Assumes nothing.
use Rattle.std.proofs.Common.{◌≡◌, ◌-◌}
use Rattle.lines.specs.Line.{after_spaces}
use Rattle.lines.proofs.after_spaces.Given as goal

abbrev pub invariant-loop : goal.invariant-loop
invariant-loop l = after_spaces l.k l.line ≡ after_spaces (l.k - l.counter) l.rest
