-- The listing lies within its buffer.
use Rattle.std.proofs.Common.{sym, length-take-le}
use Rattle.sheet.proofs.Listed.{listed-within}
use Rattle.slotlist.proofs.main.Goals as goal

pub slice_bounds-listing-end : goal.slice_bounds-listing-end
slice_bounds-listing-end c = listed-within _ _ c.list_sheet-length.ensures

pub slice_bounds-write_all-end : goal.slice_bounds-write_all-end
slice_bounds-write_all-end c = sym (length-take-le _ _ (listed-within _ _ c.list_sheet-length.ensures))
