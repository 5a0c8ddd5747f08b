-- `input::read_pairs`: the numbers of the lines passed, and those of the lines that are left. Assumes nothing.
use Rattle.std.proofs.Common.{◌≡◌, ◌-◌, ◌*◌, ◌++◌, length}
use Rattle.conversion_sheet.specs.Input.{lines_numbers, pair_numbers}
use Rattle.conversion_sheet.proofs.input.read_pairs.Given as goal

abbrev pub invariant-loop : goal.invariant-loop
invariant-loop l =
    (length l.numbers.items ≡ 2 * l.counter) × (pair_numbers l.fn.s ≡ l.numbers.items ++ lines_numbers (33 - l.counter) l.rest)
