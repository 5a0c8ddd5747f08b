-- `plain_field::galois::inverse`: the product so far, and the squares to come, are the inverse. Assumes nothing.
use mathlib.Core.Path.{◌≡◌}
use Prim.Native.Nat.{◌-◌, ◌≤◌}
use Rattle.gf256.specs.Field.{times_squares, inverse}
use Rattle.plain_field.proofs.galois.inverse.Given as goal

abbrev pub invariant-loop : goal.invariant-loop
invariant-loop l = (l.counter ≤ 7) × (times_squares (7 - l.counter) l.power l.product ≡ inverse l.x)

abbrev pub decreases-loop : goal.decreases-loop
decreases-loop l = 7 - l.counter
