-- `shares::gcd`: each step keeps the divisor. Assumes nothing.
use mathlib.Core.Path.{◌≡◌}
use Rattle.shares.specs.Share.{gcd}
use Rattle.shares.proofs.gcd.Given as goal

abbrev pub invariant-loop-y : goal.invariant-loop-y
invariant-loop-y l = gcd l.a l.b ≡ gcd l.x l.y

abbrev pub decreases-loop-y : goal.decreases-loop-y
decreases-loop-y l = l.y
