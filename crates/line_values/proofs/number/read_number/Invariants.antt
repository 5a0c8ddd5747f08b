-- `number::read_number`: what is to be answered stays the same with each digit. Assumes nothing.
use Rattle.std.proofs.Common.{◌≡◌, ◌+◌}
use Rattle.line_values.specs.Parts.{number_of}
use Rattle.line_values.proofs.Digits.{number_from}
use Rattle.line_values.proofs.number.read_number.Given as goal

abbrev pub invariant-loop-b : goal.invariant-loop-b
invariant-loop-b l = number_of l.s ≡ number_from l.value l.s (l.b-index + 1)
