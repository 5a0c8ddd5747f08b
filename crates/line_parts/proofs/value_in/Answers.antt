-- `line_parts::value_in`: what is after the `=`, without the spaces that begin it. Assumes nothing.
use Rattle.std.proofs.Common.{◌∙◌, ◌≤◌, length, arith, rules}
use Rattle.lines.specs.Line.{space}
use Rattle.lines.proofs.Pieces.{rest-is}
use Rattle.line_parts.specs.Line.{value_in}
use Rattle.line_parts.proofs.Counts.{leading-within}
use Rattle.line_parts.proofs.value_in.Goals as goal

pub slice_bounds-result-count : goal.slice_bounds-result-count
slice_bounds-result-count c = omega (arith, c.leading-spaces.ensures, leading-within space c.after_equals-after.result.now)

pub slice_bounds-result-start : goal.slice_bounds-result-start
slice_bounds-result-start c =
    let h : c.leading-spaces.result ≤ length c.after_equals-after.result.now = omega (arith, c.leading-spaces.ensures, leading-within space c.after_equals-after.result.now) in
    search rules

pub returns : goal.returns
unfolding value_in
returns c = rest-is c.after_equals-after.result.now c.leading-spaces.result ∙ (cc)
