-- `part::high_of`: by the test of the part. Assumes nothing.
use borrow.Author.Tests.{eq-eqb, ne_eqb}
use Rattle.call_log.specs.Fed.{high_of}
use Rattle.call_log.proofs.part.high_of.Goals as goal

pub returns-then-part-eq-LAST_PART : goal.returns-then-part-eq-LAST_PART
unfolding high_of
returns-then-part-eq-LAST_PART c = rw (eq-eqb _ _ c.if-part-eq-LAST_PART.true)

pub returns : goal.returns
unfolding high_of
returns c = rw (ne_eqb _ _ c.if-part-eq-LAST_PART.false)
