-- `sheet_faults::in_order`: what is to be answered stays the same with each line. Assumes nothing.
use Rattle.std.proofs.Common.{ℕ, ◌+◌, sym, ap, ◌∙◌, arith}
use Rattle.line_parts.specs.Line.{name_in}
use Rattle.line_names.proofs.Same.{number-most}
use Rattle.sheet_faults.specs.Sheet.{lines_of, in_order_from}
use Rattle.sheet_faults.proofs.Walk.{order-here, order-on, order-end}
use Rattle.sheet_faults.proofs.in_order.Goals as goal

pub returns-then-place-least : goal.returns-then-place-least
returns-then-place-least c =
    sym (c.loop-line.invariant.2 ∙ order-here c.in-Some.ensures.steps (omega (arith, c.place_of-place.ensures, c.if-place-least.true)))

pub overflow_add-least : goal.overflow_add-least
overflow_add-least c = record { fits = omega (arith, c.place_of-place.ensures, number-most (name_in c.in-Some.line.now)) }

pub loop-line-preserved : goal.loop-line-preserved
loop-line-preserved c = (
  tt,
  tt,
  c.loop-line.invariant.2
      ∙ order-on c.in-Some.ensures.steps (omega (arith, c.place_of-place.ensures, c.if-place-least.false))
      ∙ ap (λ (k : ℕ). in_order_from (k + 1) (lines_of c.next.new.self.rest.now)) (sym c.place_of-place.ensures),
)

pub returns : goal.returns
returns c = sym (c.loop-line.invariant.2 ∙ order-end c.loop-line.least _ c.in-None.ensures.steps.0)
