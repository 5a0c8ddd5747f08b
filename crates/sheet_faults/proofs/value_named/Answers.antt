-- `sheet_faults::value_named`: by what `find` finds. Assumes nothing.
use Rattle.std.proofs.Common.{ap, ◌∙◌, refl, rules, tests, eqb}
use Rattle.std.proofs.lemmas.Iterator.Consumers.{YieldsList-from_first}
use Rattle.std.proofs.lemmas.Iterator.Search.{find_from_yields_List}
use Rattle.line_names.specs.Names.{number_in, number_of}
use Rattle.sheet_faults.specs.declared.Lines.{Lines}
use Rattle.sheet_faults.specs.Sheet.{lines_of}
use Rattle.sheet_faults.proofs.Walk.{value_found, value-find, value-of}
use Rattle.sheet_faults.proofs.value_named.Goals as goal

pub returns : goal.returns
returns c =
    let first = find_from_yields_List (λ line. eqb (number_in line) (number_of c.args.name)) c.find.new.self _ c.find.result c.find.ensures.ran
    (YieldsList-from_first (λ l. l.now) (λ (s : Lines). lines_of s.rest.now) (lines_of c.args.text.now) refl)
    (λ x b q k. search (rules, tests))
    in
    value-of _ c.find.result _ _ c.map_or.ensures refl (λ line h. search rules)
    ∙ ap value_found first
    ∙ value-find (number_of c.args.name) (lines_of c.args.text.now)
