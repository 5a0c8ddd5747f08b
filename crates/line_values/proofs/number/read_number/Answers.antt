-- `number::read_number`: what is to be answered stays the same with each digit. Assumes nothing.
use Rattle.std.proofs.Common.{◌∙◌, sym, ap, arith}
use Rattle.forms.proofs.Decimals.{begin-is, follow-is}
use Rattle.line_values.specs.Parts.{as_number}
use Rattle.line_values.proofs.Digits.{number-none, begins, begins-not, follows, follows-not, none-follows}
use Rattle.line_values.proofs.number.read_number.Goals as goal

pub returns-in_err-first : goal.returns-in_err-first
returns-in_err-first c = ap as_number c.from_residual.ensures ∙ number-none _ c.in_err-first.ensures.cases

pub returns-then-not-may_begin : goal.returns-then-not-may_begin
returns-then-not-may_begin c = sym (begins-not c.in_ok-first.ensures.cases.0 (sym c.may_begin.ensures ∙ c.if-not-may_begin.true))

pub overflow_sub-value : goal.overflow_sub-value
overflow_sub-value c = let k = begin-is _ _ _ (sym c.may_begin.ensures ∙ c.if-not-may_begin.false) in omega arith

pub loop-b-init : goal.loop-b-init
loop-b-init c = begins c.in_ok-first.ensures.cases.0 (sym c.may_begin.ensures ∙ c.if-not-may_begin.false)

pub returns-then-not-may_follow : goal.returns-then-not-may_follow
returns-then-not-may_follow c =
    sym (c.loop-b.invariant
    ∙ follows-not c.in_ok-first.ensures.cases.0 _ _ c.loop-b-test.true (sym c.may_follow.ensures ∙ c.if-not-may_follow.true))

-- the byte may follow

pub overflow_mul-value : goal.overflow_mul-value
overflow_mul-value c = let k = follow-is _ _ _ (sym c.may_follow.ensures ∙ c.if-not-may_follow.false) in record { fits = omega arith }

pub overflow_sub-value-in-loop-b : goal.overflow_sub-value-in-loop-b
overflow_sub-value-in-loop-b c = let k = follow-is _ _ _ (sym c.may_follow.ensures ∙ c.if-not-may_follow.false) in omega arith

pub overflow_add-value : goal.overflow_add-value
overflow_add-value c = let k = follow-is _ _ _ (sym c.may_follow.ensures ∙ c.if-not-may_follow.false) in record { fits = omega arith }

pub loop-b-preserved : goal.loop-b-preserved
loop-b-preserved c =
    c.loop-b.invariant
    ∙ follows c.in_ok-first.ensures.cases.0 _ _ c.loop-b-test.true (sym c.may_follow.ensures ∙ c.if-not-may_follow.false)

pub returns : goal.returns
returns c = sym (c.loop-b.invariant ∙ none-follows c.in_ok-first.ensures.cases.0 _ _ c.loop-b-test.false c.loop-b.auto.b-index-end)
