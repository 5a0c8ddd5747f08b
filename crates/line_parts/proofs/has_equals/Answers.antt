-- `line_parts::has_equals`: one stands in the line. Assumes nothing.
use Rattle.std.proofs.Common.{◌∙◌}
use Rattle.line_parts.specs.Line.{equals, has_equals}
use Rattle.line_parts.proofs.Counts.{contains-index}
use Rattle.line_parts.proofs.has_equals.Goals as goal

pub returns : goal.returns
unfolding has_equals
returns c = c.contains.ensures.value ∙ contains-index equals c.bare.result.now ∙ (cc)
