-- `line_parts::is_spaced`: before the `=`, or after it. Assumes nothing.
use Rattle.std.proofs.Common.{ap, sym, ◌∙◌, arith, ltb}
use borrow.Author.Tests.{lt-ltb}
use Rattle.lines.specs.Line.{space}
use Rattle.line_parts.specs.Line.{leading, trailing}
use Rattle.line_parts.proofs.Counts.{spaced-before, spaced-after}
use Rattle.line_parts.proofs.is_spaced.Goals as goal

pub returns-then-trailing-gt0 : goal.returns-then-trailing-gt0
returns-then-trailing-gt0 c =
    lt-ltb 0 _ c.if-trailing-gt0.true
    ∙ sym (spaced-before _ (omega (arith, c.trailing.ensures ∙ ap (trailing space) c.before_equals.ensures)))

pub returns-else-trailing-gt0 : goal.returns-else-trailing-gt0
returns-else-trailing-gt0 c =
    ap (ltb 0) (c.leading.ensures ∙ ap (leading space) c.after_equals.ensures)
    ∙ sym (spaced-after _ (omega (arith, c.trailing.ensures ∙ ap (trailing space) c.before_equals.ensures)))
