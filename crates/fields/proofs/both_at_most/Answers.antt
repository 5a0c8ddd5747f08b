-- `fields::both_at_most`: the second test counts where the first holds. Assumes nothing.
use borrow.Author.Tests.{le-leb, lt-leb}
use Rattle.fields.proofs.both_at_most.Goals as goal

pub returns-then-a-most_a : goal.returns-then-a-most_a
returns-then-a-most_a c = rw (le-leb _ _ c.if-a-most_a.true)

pub returns-else-a-most_a : goal.returns-else-a-most_a
returns-else-a-most_a c = rw (lt-leb _ _ c.if-a-most_a.false)
