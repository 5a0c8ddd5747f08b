-- `line_faults::any_upper_hex`: by what `any` answers. Assumes nothing.
use Rattle.std.proofs.Common.{◌∙◌, rules, tests}
use Rattle.std.proofs.lemmas.Iterator.{YieldsList-from_slice}
use Rattle.std.proofs.lemmas.Iterator.Search.{any_from_yields_List}
use Rattle.line_faults.specs.Faults.{is_upper_hex}
use Rattle.line_faults.proofs.Hexes.{upper-any}
use Rattle.line_faults.proofs.any_upper_hex.Goals as goal

pub returns : goal.returns
returns c =
    any_from_yields_List is_upper_hex _ _ _ c.any.ensures.ran (YieldsList-from_slice c.args.s.now (cc)) (λ x b q k. search (rules, tests))
    ∙ upper-any c.args.s.now
