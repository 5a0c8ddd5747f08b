-- `line_parts::name_in`: what is before the `=`, without the spaces that end it. Assumes nothing.
use Rattle.std.proofs.Common.{sym, ◌∙◌, arith}
use Rattle.lines.specs.Line.{space}
use Rattle.line_parts.specs.Line.{name_in}
use Rattle.line_parts.proofs.Counts.{trailing-within}
use Rattle.line_parts.proofs.name_in.Goals as goal

pub returns-then-not-has_equals : goal.returns-then-not-has_equals
unfolding name_in
returns-then-not-has_equals c = rw (sym c.has_equals.ensures ∙ c.if-not-has_equals.true)

pub slice_bounds-result-count : goal.slice_bounds-result-count
slice_bounds-result-count c = omega (arith, c.trailing-spaces.ensures, trailing-within space c.before_equals-before.result.now)

pub returns : goal.returns
unfolding name_in
returns c =
    rw (sym c.has_equals.ensures ∙ c.if-not-has_equals.false) (cc)
