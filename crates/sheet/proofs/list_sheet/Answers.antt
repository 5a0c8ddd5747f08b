-- `sheet::list_sheet`: the listing, where there is room for it. Assumes nothing.
use mathlib.Core.Path.{refl}
use borrow.Author.Tests.{lt-ltb}
use Rattle.sheet.specs.Sheet.{listed_length, listed_buffer}
use Rattle.sheet.proofs.Listed.{listed}
use Rattle.sheet.proofs.list_sheet.Goals as goal

pub returns-then-buffer-lt-ROOM : goal.returns-then-buffer-lt-ROOM
unfolding listed_length listed_buffer
returns-then-buffer-lt-ROOM c = rw (lt-ltb _ _ c.if-buffer-lt-ROOM.true) (refl, refl)

pub returns : goal.returns
returns c = listed _ _ c.if-buffer-lt-ROOM.false c.put_sheet.ensures.0 c.put_sheet.ensures.1
