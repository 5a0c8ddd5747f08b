-- `answer::put_ciphered`: the bytes and LF. Assumes nothing.
use mathlib.Core.Path.{sym}
use Rattle.writing.proofs.Puts.{put_then, put-length, put_as, room-first, room-then, room_as}
use Rattle.cases.proofs.Texts.{ciphered-text}
use Rattle.cases.proofs.answer.put_ciphered.Goals as goal

-- the buffer is the ciphered one

pub put_hex-end-requires : goal.put_hex-end-requires
put_hex-end-requires c =
    let made = ciphered-text c.args.line.now c.cipher.ensures in
    room-first _ (room_as made c.requires.2)

pub put_bytes-requires : goal.put_bytes-requires
put_bytes-requires c =
    let made = ciphered-text c.args.line.now c.cipher.ensures in
    room-then c.put_hex-end.ensures (room_as made c.requires.2)

pub returns : goal.returns
returns c =
    let made = ciphered-text c.args.line.now c.cipher.ensures in
    put_as (sym made) (put_then c.put_hex-end.ensures c.put_bytes.ensures)

pub shape_of-out : goal.shape_of-out
shape_of-out c = put-length (returns c)
