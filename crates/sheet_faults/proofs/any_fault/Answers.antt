-- `sheet_faults::any_fault`: by what `any` answers. Assumes nothing.
use Rattle.std.proofs.Common.{◌∙◌, refl, rules, tests}
use Rattle.std.proofs.lemmas.Iterator.Consumers.{YieldsList-from_first}
use Rattle.std.proofs.lemmas.Iterator.Search.{any_from_yields_List}
use Rattle.line_faults.specs.Faults.{has_fault}
use Rattle.sheet_faults.specs.declared.Lines.{Lines}
use Rattle.sheet_faults.specs.Sheet.{lines_of}
use Rattle.sheet_faults.proofs.Walk.{fault-any}
use Rattle.sheet_faults.proofs.any_fault.Goals as goal

pub returns : goal.returns
returns c =
    any_from_yields_List (has_fault c.args.fault) c.any.new.self _ _ c.any.ensures.ran
    (YieldsList-from_first (λ l. l.now) (λ (s : Lines). lines_of s.rest.now) (lines_of c.args.text.now) refl)
    (λ x b q k. search (rules, tests))
    ∙ fault-any c.args.fault (lines_of c.args.text.now)
