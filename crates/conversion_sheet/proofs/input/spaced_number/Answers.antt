-- `input::spaced_number`: each answer by the tests that led to it. Assumes nothing.
use Rattle.std.proofs.Common.{◌∙◌, sym}
use borrow.Author.Tests.{eq-eqb, ne_eqb}
use Rattle.forms.proofs.Decimals.{begin-is, follow-is}
use Rattle.conversion_sheet.specs.Input.{spaced_number}
use Rattle.conversion_sheet.proofs.input.spaced_number.Goals as goal
use Rattle.conversion_sheet.proofs.input.spaced_number.Goals.{then-not-may_follow-via-then-not-may_follow, then-not-may_follow-via-else-not-may_follow+then-d-ne32}

-- a digit begins, and another follows

pub returns-then-not-may_begin : goal.returns-then-not-may_begin
unfolding spaced_number
returns-then-not-may_begin c = rw (sym c.may_begin.ensures ∙ c.if-not-may_begin.true)

pub overflow_sub-digit : goal.overflow_sub-digit
overflow_sub-digit c = (begin-is 1 32 _ (sym c.may_begin.ensures ∙ c.if-not-may_begin.false)).0

pub returns-then-c-eq32 : goal.returns-then-c-eq32
unfolding spaced_number
returns-then-c-eq32 c = rw (sym c.may_begin.ensures ∙ c.if-not-may_begin.false, eq-eqb _ _ c.if-c-eq32.true)

pub returns-then-not-may_follow : goal.returns-then-not-may_follow
unfolding spaced_number
returns-then-not-may_follow c =
    elim c.then-not-may_follow.branch [
      | then-not-may_follow-via-then-not-may_follow w ↦
          rw (
            sym c.may_begin.ensures ∙ c.if-not-may_begin.false,
            ne_eqb _ _ c.if-c-eq32.false,
            sym c.may_follow.ensures ∙ w.if-not-may_follow.true,
          )
      | then-not-may_follow-via-else-not-may_follow+then-d-ne32 w ↦
          rw (
            sym c.may_begin.ensures ∙ c.if-not-may_begin.false,
            ne_eqb _ _ c.if-c-eq32.false,
            sym c.may_follow.ensures ∙ w.if-not-may_follow.false,
            ne_eqb _ _ w.if-d-ne32.true,
          )
    ]

pub overflow_sub-result : goal.overflow_sub-result
overflow_sub-result c = (follow-is 32 _ _ (sym c.may_follow.ensures ∙ c.if-not-may_follow.false)).0

pub returns : goal.returns
unfolding spaced_number
returns c =
    rw (
      sym c.may_begin.ensures ∙ c.if-not-may_begin.false,
      ne_eqb _ _ c.if-c-eq32.false,
      sym c.may_follow.ensures ∙ c.if-not-may_follow.false,
      eq-eqb _ _ c.if-d-ne32.false,
    )
