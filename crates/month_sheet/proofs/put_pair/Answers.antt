-- `month_sheet::put_pair`: item after item. Assumes nothing.
use Rattle.writing.proofs.Left.{left-all, left-room, left-next, left-last, next-room}
use Rattle.month_sheet.proofs.put_pair.Goals as goal

pub put_item-end-requires : goal.put_item-end-requires
put_item-end-requires c = next-room _ c.requires left-all

pub put_line-requires : goal.put_line-requires
put_line-requires c = left-room c.requires (left-next left-all c.put_item-end.ensures)

pub returns : goal.returns
returns c = left-last (left-next left-all c.put_item-end.ensures) c.put_line.ensures
