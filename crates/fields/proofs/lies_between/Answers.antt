-- `fields::lies_between`: the second test counts where the first holds. Assumes nothing.
use borrow.Author.Tests.{le-leb, lt-leb}
use Rattle.fields.proofs.lies_between.Goals as goal

pub returns-then-low-n : goal.returns-then-low-n
returns-then-low-n c = rw (le-leb _ _ c.if-low-n.true)

pub returns-else-low-n : goal.returns-else-low-n
returns-else-low-n c = rw (lt-leb _ _ c.if-low-n.false)
