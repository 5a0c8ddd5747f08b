-- `algorithms::digit`: by the number's algorithm. Assumes nothing.
use mathlib.Core.Path.{sym, ◌∙◌}
use Rattle.algorithms.specs.Algorithm.{digit_of}
use Rattle.algorithms.proofs.Numbers.{picked}
use Rattle.algorithms.proofs.digit.Goals as goal

pub returns-in-Tea5 : goal.returns-in-Tea5
unfolding digit_of
returns-in-Tea5 c = picked c.args.algorithm 53 54 55 (sym c.in-Tea5.is ∙ c.from.ensures)

pub returns-in-Tea6 : goal.returns-in-Tea6
unfolding digit_of
returns-in-Tea6 c = picked c.args.algorithm 53 54 55 (sym c.in-Tea6.is ∙ c.from.ensures)

pub returns-in-Tea7 : goal.returns-in-Tea7
unfolding digit_of
returns-in-Tea7 c = picked c.args.algorithm 53 54 55 (sym c.in-Tea7.is ∙ c.from.ensures)
