-- `plain_field::galois::times`: the sum so far, and the terms to come, are the product. Assumes nothing.
use mathlib.Core.Path.{◌≡◌}
use Prim.Native.Nat.{◌-◌, ◌≤◌}
use lib.Bits.{bit_xor}
use Rattle.gf256.specs.Field.{sum_over, times}
use Rattle.plain_field.proofs.galois.times.Given as goal

abbrev pub invariant-loop : goal.invariant-loop
invariant-loop l = (l.counter ≤ 8) × (bit_xor l.sum (sum_over (8 - l.counter) l.rest l.shifted) ≡ times l.a l.b)

abbrev pub decreases-loop : goal.decreases-loop
decreases-loop l = 8 - l.counter
