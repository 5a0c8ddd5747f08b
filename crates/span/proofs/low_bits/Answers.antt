-- The rest by a power of 2 that a shift gives. Assumes nothing.
use native.Mathlib.Nat.{mod-le, lt_of_le_of_lt}
use lib.Pow.{pow_pos}
use Rattle.span.proofs.Stores.{power}
use Rattle.span.proofs.low_bits.Goals as goal

pub nonzero_rem-result : goal.nonzero_rem-result
nonzero_rem-result c = rw (power c.args.d c.requires) (pow_pos c.args.d)

pub overflow_cast-result-3 : goal.overflow_cast-result-3
overflow_cast-result-3 c = record { fits = lt_of_le_of_lt (mod-le _ _) c.ranges.b.fits }

pub returns : goal.returns
returns c = rw (power c.args.d c.requires)
