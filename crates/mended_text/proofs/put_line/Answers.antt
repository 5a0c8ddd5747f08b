-- `mended_text::put_line`: the name, the value, LF. Assumes nothing.
use mathlib.Core.Path.{sym}
use Rattle.writing.proofs.Puts.{put_as, put_then, room_as, room-first, room-then}
use Rattle.mended_text.proofs.Laws.{line-parts}
use Rattle.mended_text.proofs.put_line.Goals as goal

pub put_name-value-requires : goal.put_name-value-requires
put_name-value-requires c = room-first _ (room_as (line-parts _ _ _) c.requires)

pub put_value-end-requires : goal.put_value-end-requires
put_value-end-requires c =
    room-first _ (room-then c.put_name-value.ensures (room_as (line-parts _ _ _) c.requires))

pub put_bytes-requires : goal.put_bytes-requires
put_bytes-requires c =
    room-then c.put_value-end.ensures (room-then c.put_name-value.ensures (room_as (line-parts _ _ _) c.requires))

pub returns : goal.returns
returns c =
    put_as (sym (line-parts _ _ _)) (put_then c.put_name-value.ensures (put_then c.put_value-end.ensures c.put_bytes.ensures))
