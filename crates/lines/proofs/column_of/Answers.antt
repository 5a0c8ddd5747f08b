-- `lines::column_of`: one column more than there are bytes between the last line end and the place. Assumes nothing.
use Rattle.std.proofs.Common.{arith, rules, tests, eqb, not, take}
use Rattle.std.proofs.lemmas.Iterator.Adapters.{YieldsList-from_rev_slice}
use Rattle.std.proofs.lemmas.Iterator.Consumers.{YieldsList-at, count_from_yields_List}
use Rattle.std.proofs.lemmas.Iterator.Search.{YieldsList-from_take_while}
use Rattle.lines.specs.Line.{column_of}
use Rattle.lines.proofs.Ends.{column-counted}
use Rattle.lines.proofs.column_of.Goals as goal

pub returns : goal.returns
unfolding column_of
returns c =
    let before = take c.args.place c.args.text.now in
    let counted =
    count_from_yields_List c.take_while-since_end.result c.count.result c.count.ensures.ran
    (YieldsList-from_take_while _ (λ b. not (eqb b 10)) (YieldsList-at c.take_while-since_end.ensures.source (YieldsList-from_rev_slice before cc))
    c.take_while-since_end.ensures.closure c.take_while-since_end.ensures.done (λ x r q k. search (rules, tests))) in
    omega (arith, counted, column-counted before)
