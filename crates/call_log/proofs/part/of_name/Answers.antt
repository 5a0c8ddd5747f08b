-- `part::of_name`: by the test of the byte. Assumes nothing.
use borrow.Author.Tests.{eq-eqb, ne_eqb}
use Rattle.call_log.specs.Fed.{of_name}
use Rattle.call_log.proofs.part.of_name.Goals as goal

pub returns-then-b-name : goal.returns-then-b-name
unfolding of_name
returns-then-b-name c = rw (eq-eqb _ _ c.if-b-name.true) c.so_far.ensures

pub returns : goal.returns
unfolding of_name
returns c = rw (ne_eqb _ _ c.if-b-name.false) c.stopped.ensures
