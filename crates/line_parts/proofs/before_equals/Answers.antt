-- `line_parts::before_equals`: what is before the place of the `=`. Assumes nothing.
use Rattle.std.proofs.Common.{arith, sym}
use lib.Seq.{length-take-le}
use Rattle.lines.proofs.Pieces.{index-within}
use Rattle.line_parts.specs.Line.{equals, before_equals}
use Rattle.line_parts.proofs.before_equals.Goals as goal

pub slice_bounds-result-end : goal.slice_bounds-result-end
slice_bounds-result-end c = sym (length-take-le _ _ (omega (arith, c.index_of-n.ensures, index-within equals c.bare-whole.result.now)))

pub returns : goal.returns
unfolding before_equals
returns c = cc
