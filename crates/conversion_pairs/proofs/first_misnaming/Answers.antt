-- `conversion_pairs::first_misnaming`: the first of the pairs. Assumes nothing.
use Rattle.std.proofs.Common.{rules, tests, arith, ap, ◌∙◌, refl}
use Rattle.std.proofs.lemmas.Iterator.{YieldsList-from_range}
use Rattle.std.proofs.lemmas.Iterator.Search.{position_from_yields_List}
use Rattle.conversion_pairs.specs.Pairs.{misnames, pair_count, first_faulty}
use Rattle.conversion_pairs.specs.Answers.{place_of}
use Rattle.conversion_pairs.proofs.Steps.{first_placed}
use Rattle.conversion_pairs.proofs.first_misnaming.Goals as goal

pub returns-clause-first : goal.returns-clause-first
unfolding first_faulty
returns-clause-first c =
    let args = c.args in
    ap place_of
    (position_from_yields_List (misnames args.before args.after args.pairs.now) _ _ _
    c.position.ensures.ran
    (YieldsList-from_range 0 c.pair_count.result (pair_count args.pairs.now) refl (omega (arith, c.pair_count.ensures)))
    (λ x b q k. search (rules, tests)))
    ∙ first_placed _ _
