-- `answer::put_value`: the bytes and a space. Assumes nothing.
use native.Mathlib.Omega.{arith}
use Rattle.writing.proofs.Puts.{put_then, put-length, room-first, room-then}
use Rattle.cases.proofs.Texts.{value-length, value-room}
use Rattle.cases.proofs.answer.put_value.Goals as goal

pub put_hex-end-requires : goal.put_hex-end-requires
put_hex-end-requires c =
    let room = value-room c.args.out.now c.args.at c.args.bytes c.requires c.well_formed.1.1.0.1.0.1 in
    room-first _ room

pub put_bytes-requires : goal.put_bytes-requires
put_bytes-requires c =
    let room = value-room c.args.out.now c.args.at c.args.bytes c.requires c.well_formed.1.1.0.1.0.1 in
    room-then c.put_hex-end.ensures room

pub returns : goal.returns
returns c =
    let long = value-length c.args.bytes c.well_formed.1.1.0.1.0.1 in
    let put = put_then c.put_hex-end.ensures c.put_bytes.ensures in
    (omega (arith, put.ends, long), put)

pub shape_of-out : goal.shape_of-out
shape_of-out c = put-length (returns c).1
