-- The bits of bytes 0 to y - 1 are xored with the bits of z. Assumes nothing.
use mathlib.Core.Path.{◌≡◌}
use Prim.Native.Nat.{◌+◌, ◌-◌, ◌*◌, ◌≤◌}
use lib.ListN.{length}
use Rattle.laws.specs.Bits.{bit_at}
use Rattle.span.specs.Span.{xored}
use Rattle.span.proofs.xor_shifted.Given as goal

abbrev pub invariant-loop-y : goal.invariant-loop-y
invariant-loop-y l = (l.y ≤ l.count) × (length l.s ≡ length l.initial.s) × (l.s ≡ xored l.initial.s (bit_at l.z) 0 (8 * l.d + l.o) (8 * l.y))

abbrev pub decreases-loop-y : goal.decreases-loop-y
decreases-loop-y l = l.count - l.y
