-- The last bits of one byte and the first bits of the next are cleared. Assumes nothing.
use native.Mathlib.Omega.{arith}
use Rattle.span.proofs.Stores.{eight-cleared}
use Rattle.span.proofs.clear_eight.Goals as goal

pub returns : goal.returns
returns c =
    let a = c.args in
    rw (c.first_off.ensures, c.last_off.ensures)
    (eight-cleared a.z.now a.i (omega arith) (λ q. omega (arith, c.slice_known-1.given q)))
