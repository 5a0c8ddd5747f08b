-- `inv_bytes::chosen`: by the test. Assumes nothing.
use borrow.Author.Tests.{eq-eqb, ne_eqb}
use Prim.Native.Nat.{◌%◌}
use Rattle.inv_bytes.proofs.chosen.Goals as goal

pub returns-then-k-eq1 : goal.returns-then-k-eq1
returns-then-k-eq1 c = rw (eq-eqb (c.args.k % 2) 1 c.if-k-eq1.true)

pub returns-else-k-eq1 : goal.returns-else-k-eq1
returns-else-k-eq1 c = rw (ne_eqb (c.args.k % 2) 1 c.if-k-eq1.false)
