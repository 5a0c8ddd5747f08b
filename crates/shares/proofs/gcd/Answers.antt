-- `shares::gcd`: each step keeps the divisor. Assumes nothing.
use mathlib.Core.Path.{refl, sym, ◌∙◌}
use Rattle.shares.proofs.Euclid.{gcd-none, gcd-next, rest-less}
use Rattle.shares.proofs.gcd.Goals as goal

pub loop-y-smaller : goal.loop-y-smaller
loop-y-smaller c = rest-less c.loop-y.x c.loop-y.y c.loop-y-test.true

pub loop-y-preserved : goal.loop-y-preserved
loop-y-preserved c = c.loop-y.invariant ∙ gcd-next c.loop-y.x c.loop-y.y c.loop-y-test.true

pub returns : goal.returns
returns c = sym (c.loop-y.invariant ∙ gcd-none c.loop-y.x c.loop-y.y c.loop-y-test.false)

pub loop-y-init : goal.loop-y-init
loop-y-init c = refl
