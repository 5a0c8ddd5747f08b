-- `hex_reading::read_half`: each answer by the tests that led to it. Assumes nothing.
use Rattle.std.proofs.Common.{◌∙◌, refl, sym, ap, arith}
use Rattle.reading.specs.Reading.{answer}
use Rattle.reading.proofs.Steps.{on-ok, on-err, passed-on, step_end, half-no, half-yes}
use Rattle.hex_reading.proofs.read_half.Goals as goal

pub returns-in_err-place : goal.returns-in_err-place
returns-in_err-place c = passed-on _ c.from_residual.ensures.1 ∙ sym (ap answer (on-err _ _ c.in_err-place.was))

pub returns-then-s-place : goal.returns-then-s-place
returns-then-s-place c = sym (ap answer (on-ok _ _ c.in_ok-place.was ∙ step_end _ _ _ _ c.if-s-place.true))

pub returns-in-None : goal.returns-in-None
returns-in-None c = sym (ap answer (on-ok _ _ c.in_ok-place.was ∙ half-no _ _ 16 c.if-s-place.false c.in-None.ensures.value refl))

pub returns-in-Some : goal.returns-in-Some
returns-in-Some c =
    sym (ap answer (on-ok _ _ c.in_ok-place.was
    ∙ half-yes _ _ c.in-Some.value c.if-s-place.false c.in-Some.ensures.value (λ e. omega (arith, c.in-Some.ensures.small))))
