-- `reading::read_literal`: what is to be answered stays the same with each byte. Assumes nothing.
use Rattle.std.proofs.Common.{◌∙◌, sym, ap}
use Rattle.reading.specs.Reading.{answer}
use Rattle.reading.proofs.Steps.{on-ok, on-err, passed-on, literal-all, literal-end, literal-no, literal-yes}
use Rattle.reading.proofs.read_literal.Goals as goal
use Rattle.reading.proofs.read_literal.Goals.{then-s-place-via-then-s-place, then-s-place-via-else-s-place+then-s-place-2}

pub returns-in_err-place : goal.returns-in_err-place
returns-in_err-place c = passed-on _ c.from_residual.ensures.1 ∙ sym (ap answer (on-err _ _ c.in_err-place.was))

pub returns-then-s-place : goal.returns-then-s-place
returns-then-s-place c =
    elim c.then-s-place.branch [
      | then-s-place-via-then-s-place w ↦
          sym (ap answer (on-ok _ _ c.in_ok-place.was ∙ c.loop-b.invariant ∙ literal-end _ _ _ _ c.loop-b-test.true w.if-s-place.true))
      | then-s-place-via-else-s-place+then-s-place-2 w ↦
          sym (ap answer (on-ok _ _ c.in_ok-place.was
          ∙ c.loop-b.invariant ∙ literal-no _ _ _ _ c.loop-b-test.true w.if-s-place.false w.if-s-place-2.true))
    ]

pub loop-b-preserved : goal.loop-b-preserved
loop-b-preserved c = c.loop-b.invariant ∙ literal-yes _ _ _ _ c.loop-b-test.true c.if-s-place.false c.if-s-place-2.false

pub returns : goal.returns
returns c = sym (ap answer (on-ok _ _ c.in_ok-place.was ∙ c.loop-b.invariant ∙ literal-all _ _ _ _ c.loop-b-test.false))
