-- `algorithms::name`: by the number's algorithm. Assumes nothing.
use mathlib.Core.Path.{sym, ap, ◌∙◌}
use mathlib.Core.List.{[], ◌∷◌}
use Rattle.algorithms.specs.Algorithm.{digit_of, name_of}
use Rattle.algorithms.proofs.Numbers.{picked}
use Rattle.algorithms.proofs.name.Goals as goal

pub returns-in-Tea5 : goal.returns-in-Tea5
unfolding name_of digit_of
returns-in-Tea5 c = ap (λ d. 84 ∷ 69 ∷ 65 ∷ d ∷ []) (picked c.args.algorithm 53 54 55 (sym c.in-Tea5.is ∙ c.from.ensures))

pub returns-in-Tea6 : goal.returns-in-Tea6
unfolding name_of digit_of
returns-in-Tea6 c = ap (λ d. 84 ∷ 69 ∷ 65 ∷ d ∷ []) (picked c.args.algorithm 53 54 55 (sym c.in-Tea6.is ∙ c.from.ensures))

pub returns-in-Tea7 : goal.returns-in-Tea7
unfolding name_of digit_of
returns-in-Tea7 c = ap (λ d. 84 ∷ 69 ∷ 65 ∷ d ∷ []) (picked c.args.algorithm 53 54 55 (sym c.in-Tea7.is ∙ c.from.ensures))
