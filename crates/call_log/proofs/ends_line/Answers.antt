-- `call_log::ends_line`: each answer by the tests that led to it. Assumes nothing.
use borrow.Author.Tests.{eq-eqb, ne_eqb}
use Rattle.call_log.specs.Fed.{ends_line}
use Rattle.call_log.proofs.ends_line.Goals as goal

pub returns-then-m-eq4 : goal.returns-then-m-eq4
unfolding ends_line
returns-then-m-eq4 c = rw (eq-eqb _ _ c.if-b-eq10.true, eq-eqb _ _ c.if-m-eq4.true)

pub returns-else-m-eq4 : goal.returns-else-m-eq4
unfolding ends_line
returns-else-m-eq4 c = rw (eq-eqb _ _ c.if-b-eq10.true, ne_eqb _ _ c.if-m-eq4.false)

pub returns-else-b-eq10 : goal.returns-else-b-eq10
unfolding ends_line
returns-else-b-eq10 c = rw (ne_eqb _ _ c.if-b-eq10.false)
