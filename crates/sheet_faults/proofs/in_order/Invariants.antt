-- `sheet_faults::in_order`: what is to be answered stays the same with each line. Assumes nothing.
use Rattle.std.proofs.Common.{◌≡◌}
use Rattle.sheet_faults.specs.Sheet.{lines_of, in_order_from}
use Rattle.sheet_faults.proofs.in_order.Given as goal

abbrev pub invariant-loop-line : goal.invariant-loop-line
invariant-loop-line l =
    (goal.iterator-loop-line).can_next l.line-iterator
    × (goal.iterator-loop-line).is_finite l.line-iterator
    × (in_order_from 0 (lines_of l.text) ≡ in_order_from l.least (lines_of l.line-iterator.rest.now))
