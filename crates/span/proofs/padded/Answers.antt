-- `span::padded`: the block stands in z from byte 1 on. Assumes nothing.
use Rattle.span.specs.Span.{framed}
use Rattle.span.proofs.padded.Goals as goal

pub returns : goal.returns
unfolding framed
returns c = rw c.copy_from_slice.ensures.after
