-- `plain_field::galois::term`: by the test. Assumes nothing.
use borrow.Author.Tests.{eq-eqb, ne_eqb}
use Rattle.plain_field.proofs.galois.term.Goals as goal

pub returns-then-a-eq1 : goal.returns-then-a-eq1
returns-then-a-eq1 c = rw (eq-eqb _ 1 c.if-a-eq1.true)

pub returns : goal.returns
returns c = rw (ne_eqb _ 1 c.if-a-eq1.false)
