-- `writing::put_hex`: byte after byte. Assumes nothing.
use Rattle.writing.specs.Text.{hex_text}
use Rattle.writing.proofs.Puts.{put-none, put-length, hex-room, hex-next, hex-whole}
use Rattle.writing.proofs.put_hex.Goals as goal

pub loop-b-init : goal.loop-b-init
unfolding hex_text
loop-b-init c = put-none _ _

pub put_byte-end-requires : goal.put_byte-end-requires
put_byte-end-requires c = hex-room _ _ c.requires c.loop-b.invariant _ c.loop-b-test.true

pub loop-b-preserved : goal.loop-b-preserved
loop-b-preserved c = hex-next _ _ c.requires c.loop-b.invariant c.loop-b-test.true c.put_byte-end.ensures

pub returns : goal.returns
returns c = hex-whole _ _ c.requires c.loop-b.invariant c.loop-b-test.false

pub shape_of-buffer : goal.shape_of-buffer
shape_of-buffer c = put-length (returns c)
