-- `month_sheet::put_rows`: with each row its text is no longer left. Assumes nothing.
use Prim.Native.Nat.{◌≤◌, ◌+◌, ◌-◌, ◌*◌}
use Rattle.writing.proofs.Left.{Left}
use Rattle.month_sheet.specs.Sheet.{texts, row_in, sums_in, longest_row}
use Rattle.month_sheet.proofs.put_rows.Given as goal

abbrev pub invariant-loop-row : goal.invariant-loop-row
invariant-loop-row l =
    (l.end ≤ l.at + l.row * longest_row)
    × Left l.initial.buffer l.at (texts (row_in (sums_in l.figures)) 0 64) l.buffer l.end (texts (row_in (sums_in l.figures)) l.row (64 - l.row))
