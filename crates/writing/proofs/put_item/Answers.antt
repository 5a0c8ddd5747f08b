-- `writing::put_item`: the name, and then the value. Assumes nothing.
use Rattle.writing.proofs.Puts.{put_then, room-first, room-then}
use Rattle.writing.proofs.put_item.Goals as goal

pub put_bytes-named-requires : goal.put_bytes-named-requires
put_bytes-named-requires g c = room-first _ c.requires

pub put-requires : goal.put-requires
put-requires g c = room-then c.put_bytes-named.ensures c.requires

pub returns : goal.returns
returns g c = put_then c.put_bytes-named.ensures c.put.ensures
