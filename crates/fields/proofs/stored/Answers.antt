-- `fields::stored`: a field in its range fits its kind. Assumes nothing.
use native.Mathlib.Omega.{arith}
use Rattle.fields.proofs.Ranges.{algorithm-high, use-high, side-high, place-high, mcc-high, mnc-high}
use Rattle.fields.proofs.stored.Goals as goal

pub overflow_cast-result : goal.overflow_cast-result
overflow_cast-result c = omega (arith, algorithm-high c.args.a c.requires)

pub overflow_cast-result-2 : goal.overflow_cast-result-2
overflow_cast-result-2 c = omega (arith, use-high c.args.a c.requires)

pub overflow_cast-result-3 : goal.overflow_cast-result-3
overflow_cast-result-3 c = omega (arith, side-high c.args.a c.requires)

pub overflow_cast-result-4 : goal.overflow_cast-result-4
overflow_cast-result-4 c = omega (arith, place-high c.args.a c.requires)

pub overflow_cast-result-5 : goal.overflow_cast-result-5
overflow_cast-result-5 c = omega (arith, mcc-high c.args.a c.requires)

pub overflow_cast-result-6 : goal.overflow_cast-result-6
overflow_cast-result-6 c = omega (arith, mnc-high c.args.a c.requires)
