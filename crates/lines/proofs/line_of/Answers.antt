-- `lines::line_of`: one line more than there are line ends before the place. Assumes nothing.
use Rattle.std.proofs.Common.{◌∙◌, arith, rules, tests, eqb, take}
use Rattle.std.proofs.lemmas.Iterator.{YieldsList-from_slice}
use Rattle.std.proofs.lemmas.Iterator.Consumers.{YieldsList-from_filter, count_from_yields_List}
use Rattle.lines.specs.Line.{line_of}
use Rattle.lines.proofs.Ends.{ends-filter}
use Rattle.lines.proofs.line_of.Goals as goal

pub returns : goal.returns
unfolding line_of
returns c =
    let before = take c.args.place c.args.text.now in
    let counted =
    count_from_yields_List c.filter.result c.count.result c.count.ensures.ran
    (YieldsList-from_filter _ (λ b. eqb b 10) (YieldsList-from_slice before cc) c.filter.ensures.closure (λ x r q k. search (rules, tests))) in
    omega (arith, counted ∙ ends-filter before)
