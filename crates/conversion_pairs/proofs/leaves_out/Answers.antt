-- `conversion_pairs::leaves_out`: one of the slots' numbers is left out. Assumes nothing.
use Rattle.std.proofs.Common.{rules, tests, arith, ◌∙◌, refl}
use Rattle.std.proofs.lemmas.Iterator.{YieldsList-from_range}
use Rattle.std.proofs.lemmas.Iterator.Search.{any_from_yields_List}
use Rattle.conversion_pairs.specs.Pairs.{left_out}
use Rattle.conversion_pairs.proofs.Steps.{any_left_out}
use Rattle.conversion_pairs.proofs.leaves_out.Goals as goal

pub returns : goal.returns
returns c =
    any_from_yields_List (left_out c.args.after c.args.pairs.now) _ _ _
    c.any.ensures.ran
    (YieldsList-from_range 1 33 32 refl (omega arith))
    (λ x b q k. search (rules, tests))
    ∙ any_left_out _ _ 32
