-- The algorithm of a number. Assumes nothing: this is a definition.
use Rattle.std.specs.Prelude.{ℕ}
use Rattle.algorithms.specs.declared.Algorithm.{Algorithm}
use Rattle.algorithms.specs.declared.Algorithm.TheVariants.{Tea5, Tea6, Tea7}
use Rattle.algorithms.specs.Algorithm.{by_algorithm}

abbrev pub of_number : ℕ → Algorithm
of_number number = by_algorithm number Tea5 Tea6 Tea7
