-- `reading::read_after`: what is to be answered stays the same with each digit. Assumes nothing.
use Rattle.std.proofs.Common.{◌≡◌, ◌∙◌, sym, ap, arith, length}
use Rattle.reading.specs.Reading.{answer, wrong_at}
use Rattle.forms.proofs.Decimals.{follow-is}
use Rattle.reading.proofs.Steps.{after-end, after-lf, after-no, after-digit}
use Rattle.reading.proofs.read_after.Goals as goal

pub returns-then-b-eq10 : goal.returns-then-b-eq10
returns-then-b-eq10 c = sym (ap answer (c.loop-i.invariant ∙ after-lf _ _ _ _ c.loop-i-test.true c.if-b-eq10.true))

pub returns-then-not-may_follow : goal.returns-then-not-may_follow
returns-then-not-may_follow c =
    sym (ap answer (c.loop-i.invariant
    ∙ after-no _ _ _ _ c.loop-i-test.true c.if-b-eq10.false (sym c.may_follow.ensures ∙ c.if-not-may_follow.true)))

-- the byte may follow

pub overflow_mul-value : goal.overflow_mul-value
overflow_mul-value c = let k = follow-is _ _ _ (sym c.may_follow.ensures ∙ c.if-not-may_follow.false) in record { fits = omega arith }

pub overflow_sub-value : goal.overflow_sub-value
overflow_sub-value c = let k = follow-is _ _ _ (sym c.may_follow.ensures ∙ c.if-not-may_follow.false) in omega arith

pub overflow_add-value : goal.overflow_add-value
overflow_add-value c = let k = follow-is _ _ _ (sym c.may_follow.ensures ∙ c.if-not-may_follow.false) in record { fits = omega arith }

pub loop-i-preserved : goal.loop-i-preserved
loop-i-preserved c =
    c.loop-i.invariant ∙ after-digit _ _ _ _ c.loop-i-test.true (sym c.may_follow.ensures ∙ c.if-not-may_follow.false)

pub returns : goal.returns
returns c =
    let end : c.loop-i.i ≡ length c.args.s.now = omega arith in
    ap wrong_at (sym end) ∙ sym (ap answer (c.loop-i.invariant ∙ after-end _ _ _ _ c.loop-i-test.false))
