-- `call_log::wrong_line`: by the tests that led to it. Assumes nothing.
use borrow.Author.Tests.{eq-eqb, ne_eqb, not-true, not-false}
use Rattle.call_log.specs.Fed.{wrong_line}
use Rattle.call_log.proofs.wrong_line.Goals as goal

pub returns-then-not-m : goal.returns-then-not-m
unfolding wrong_line
returns-then-not-m c = rw (not-true c.args.m.good c.if-not-m.true)

pub returns-then-m-ne0 : goal.returns-then-m-ne0
unfolding wrong_line
returns-then-m-ne0 c = rw (not-false c.args.m.good c.if-not-m.false, ne_eqb _ _ c.if-m-ne0.true)

pub returns-then-m-ne0-2 : goal.returns-then-m-ne0-2
unfolding wrong_line
returns-then-m-ne0-2 c = rw (not-false c.args.m.good c.if-not-m.false, eq-eqb _ _ c.if-m-ne0.false, ne_eqb _ _ c.if-m-ne0-2.true)

pub returns : goal.returns
unfolding wrong_line
returns c = rw (not-false c.args.m.good c.if-not-m.false, eq-eqb _ _ c.if-m-ne0.false, eq-eqb _ _ c.if-m-ne0-2.false)
