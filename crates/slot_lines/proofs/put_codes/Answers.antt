-- `slot_lines::put_codes`: item after item, each with room for it and those that follow. Assumes nothing.
use Rattle.writing.proofs.Puts.{put_then, put-length, room-first, room-then}
use Rattle.slot_lines.proofs.put_codes.Goals as goal

-- the place before each item's own

pub put_item-place-requires : goal.put_item-place-requires
put_item-place-requires c = room-first _ c.requires

pub put_item-mcc-requires : goal.put_item-mcc-requires
put_item-mcc-requires c =
    room-first _ (room-then c.put_item-place.ensures c.requires)

pub put_item-mnc-requires : goal.put_item-mnc-requires
put_item-mnc-requires c =
    room-first _ (room-then c.put_item-mcc.ensures (room-then c.put_item-place.ensures c.requires))

pub put_line-requires : goal.put_line-requires
put_line-requires c =
    room-then c.put_item-mnc.ensures (room-then c.put_item-mcc.ensures (room-then c.put_item-place.ensures c.requires))

pub returns : goal.returns
returns c =
    put_then c.put_item-place.ensures (put_then c.put_item-mcc.ensures (put_then c.put_item-mnc.ensures c.put_line.ensures))

pub shape_of-buffer : goal.shape_of-buffer
shape_of-buffer c = put-length (returns c)
