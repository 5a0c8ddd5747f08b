-- What is printed lies within its buffer.
use Rattle.std.proofs.Common.{sym, length-take-le}
use Rattle.month_sheet.proofs.Printed.{printed-within}
use Rattle.month.proofs.main.Goals as goal

pub slice_bounds-sheet-end : goal.slice_bounds-sheet-end
slice_bounds-sheet-end c = printed-within _ _ c.print-length.ensures

pub slice_bounds-write_all-end : goal.slice_bounds-write_all-end
slice_bounds-write_all-end c = sym (length-take-le _ _ (printed-within _ _ c.print-length.ensures))
