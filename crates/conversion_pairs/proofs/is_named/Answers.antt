-- `conversion_pairs::is_named`: one of the first pairs names the number. Assumes nothing.
use Rattle.std.proofs.Common.{rules, tests, arith, nat_eq, ◌∙◌, refl}
use Rattle.std.proofs.lemmas.Iterator.{YieldsList-from_range}
use Rattle.std.proofs.lemmas.Iterator.Search.{any_from_yields_List}
use Rattle.conversion_pairs.specs.Answers.{side_of}
use Rattle.conversion_pairs.specs.Pairs.{number_on}
use Rattle.conversion_pairs.proofs.Steps.{any_named}
use Rattle.conversion_pairs.proofs.is_named.Goals as goal

pub returns : goal.returns
returns c =
    let args = c.args in
    any_from_yields_List (λ i. nat_eq (number_on (side_of args.side) args.pairs.now i) args.n) _ _ _
    c.any.ensures.ran
    (YieldsList-from_range 0 args.count args.count refl (omega arith))
    (λ x b q k. search (rules, tests))
    ∙ any_named _ _ _ _
