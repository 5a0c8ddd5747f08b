-- What is printed lies within its buffer.
use Rattle.std.proofs.Common.{sym, length-take-le}
use Rattle.mending.proofs.Answers.{print-within}
use Rattle.mend.proofs.main.Goals as goal

pub slice_bounds-printed-end : goal.slice_bounds-printed-end
slice_bounds-printed-end c = print-within _ _ c.print-length.ensures

pub slice_bounds-write_all-end : goal.slice_bounds-write_all-end
slice_bounds-write_all-end c = sym (length-take-le _ _ (print-within _ _ c.print-length.ensures))
