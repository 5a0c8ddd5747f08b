-- `bytes::read_bytes`: the buffer is filled from the front. Assumes nothing.
use Rattle.std.proofs.Common.{◌*◌, ◌+◌, arith}
use Rattle.laws.proofs.Lists.{fill_none, fill_more, fill-all}
use Rattle.line_values.specs.Parts.{bytes_of}
use Rattle.line_values.proofs.Hexes.{digit_at, inside}
use Rattle.line_values.proofs.bytes.read_bytes.Goals as goal

pub loop-i-init : goal.loop-i-init
loop-i-init c = fill_none c.requires.1

pub byte_of-requires : goal.byte_of-requires
byte_of-requires c =
    let both = inside _ c.requires.0 c.loop-i.i (omega (arith, c.requires.1)) in
    let hex = digit_at _ c.requires.0 in
    (hex (2 * c.loop-i.i) (omega (arith, both)), hex (2 * c.loop-i.i + 1) both)

pub loop-i-preserved : goal.loop-i-preserved
loop-i-preserved c = fill_more c.loop-i.invariant (omega (arith, c.requires.1)) _ c.byte_of.ensures

pub returns : goal.returns
unfolding bytes_of
returns c = fill-all c.loop-i.invariant (omega (arith, c.requires.1))
