-- `reading::read_bounded`: the first digit, and then as `read_after` reads. Assumes nothing.
use Rattle.std.proofs.Common.{◌∙◌, sym, ap, arith}
use Rattle.forms.specs.Decimals.{decimal}
use Rattle.reading.specs.Reading.{answer}
use Rattle.forms.proofs.Decimals.{begin-is}
use Rattle.reading.proofs.Steps.{on-ok, on-err, passed-on, step_end, step-no, step-yes}
use Rattle.reading.proofs.read_bounded.Goals as goal
use Rattle.reading.proofs.read_bounded.Goals.{then-s-place-via-then-s-place, then-s-place-via-else-s-place+then-not-may_begin}

pub returns-in_err-place : goal.returns-in_err-place
returns-in_err-place c = passed-on _ c.from_residual.ensures.1 ∙ sym (ap answer (on-err _ _ c.in_err-place.was))

pub returns-then-s-place : goal.returns-then-s-place
unfolding decimal
returns-then-s-place c =
    elim c.then-s-place.branch [
      | then-s-place-via-then-s-place w ↦ sym (ap answer (on-ok _ _ c.in_ok-place.was ∙ step_end _ _ _ _ w.if-s-place.true))
      | then-s-place-via-else-s-place+then-not-may_begin w ↦
          sym (ap answer (on-ok _ _ c.in_ok-place.was
          ∙ step-no _ _ _ _ w.if-s-place.false (sym w.may_begin.ensures ∙ w.if-not-may_begin.true)))
    ]

pub overflow_sub-s : goal.overflow_sub-s
overflow_sub-s c = let k = begin-is _ _ _ (sym c.may_begin.ensures ∙ c.if-not-may_begin.false) in omega arith

pub returns : goal.returns
unfolding decimal
returns c =
    c.read_after.ensures
    ∙ sym (ap answer (on-ok _ _ c.in_ok-place.was
    ∙ step-yes _ _ _ _ c.if-s-place.false (sym c.may_begin.ensures ∙ c.if-not-may_begin.false)))
