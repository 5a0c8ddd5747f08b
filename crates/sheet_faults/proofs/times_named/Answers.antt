-- `sheet_faults::times_named`: by what `filter` leaves. Assumes nothing.
use Rattle.std.proofs.Common.{length, ap, inl, ◌∙◌, arith, rules, tests, eqb}
use Rattle.std.proofs.lemmas.Iterator.Consumers.{YieldsList-from_first, YieldsList-from_filter, count_from_yields_List}
use Rattle.line_names.specs.Names.{number_in, number_found}
use Rattle.sheet_faults.specs.declared.Lines.{Lines}
use Rattle.sheet_faults.specs.Sheet.{lines_of}
use Rattle.sheet_faults.proofs.Walk.{times-count, lines-fewer}
use Rattle.sheet_faults.proofs.times_named.Goals as goal

pub count-requires-clause-fits : goal.count-requires-clause-fits
count-requires-clause-fits c =
    let lines = ap (λ (s : Lines). length (lines_of s.rest.now)) c.filter.ensures.source in
    inl (omega (arith, lines, lines-fewer c.args.text.now))

pub returns : goal.returns
returns c =
    count_from_yields_List c.filter.result _ c.count.ensures.ran
    (YieldsList-from_filter _ (λ line. eqb (number_in line) (number_found c.args.name))
    (YieldsList-from_first (λ l. l.now) (λ (s : Lines). lines_of s.rest.now) (lines_of c.args.text.now) (ap (λ (s : Lines). lines_of s.rest.now) c.filter.ensures.source))
    c.filter.ensures.closure
    (λ x b q k. search (rules, tests)))
    ∙ times-count (number_found c.args.name) (lines_of c.args.text.now)
