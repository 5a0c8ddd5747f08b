-- `line_parts::leading`: how many bytes `take_while` gives. Assumes nothing.
use Rattle.std.proofs.Common.{ℕ, ◌∙◌, eqb, rules, tests}
use Rattle.std.proofs.lemmas.Iterator.{YieldsList-from_slice}
use Rattle.std.proofs.lemmas.Iterator.Consumers.{count_from_yields_List}
use Rattle.std.proofs.lemmas.Iterator.Search.{YieldsList-from_take_while}
use Rattle.std.proofs.lemmas.List.Folds.{length-prefix_len}
use Rattle.line_parts.proofs.Counts.{leading-prefix}
use Rattle.line_parts.proofs.leading.Goals as goal

pub returns : goal.returns
returns c =
    let is_b = λ (x : ℕ). eqb x c.args.b in
    count_from_yields_List c.take_while.result _ c.count.ensures.ran
    (YieldsList-from_take_while _ is_b (YieldsList-from_slice c.args.s.now cc) c.take_while.ensures.closure c.take_while.ensures.done (λ x b q k. search (rules, tests)))
    ∙ length-prefix_len is_b c.args.s.now
    ∙ leading-prefix c.args.b c.args.s.now
