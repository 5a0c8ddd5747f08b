-- `mended_text::put_name`: the name, and then `=`. Assumes nothing.
use mathlib.Core.Path.{sym}
use Rattle.writing.proofs.Puts.{put_as, put_then, room_as, room-first, room-then}
use Rattle.mended_text.proofs.put_name.Goals as goal

pub put_bytes-end-requires : goal.put_bytes-end-requires
put_bytes-end-requires c = room_as (sym c.text.ensures) (room-first _ c.requires)

pub put_bytes-requires : goal.put_bytes-requires
put_bytes-requires c = room-then (put_as c.text.ensures c.put_bytes-end.ensures) c.requires

pub returns : goal.returns
returns c = put_then (put_as c.text.ensures c.put_bytes-end.ensures) c.put_bytes.ensures
