-- `input::line_size`: the place behind the first LF. Assumes nothing.
use Rattle.std.proofs.Common.{rules, tests, ◌≡◌, nat_eq}
use Rattle.std.specs.List.{position}
use Rattle.std.proofs.lemmas.Iterator.{YieldsList-from_slice}
use Rattle.std.proofs.lemmas.Iterator.Search.{position_from_yields_List}
use Rattle.conversion_sheet.proofs.Inputs.{line_behind}
use Rattle.conversion_sheet.proofs.input.line_size.Goals as goal

pub returns : goal.returns
returns c =
    let found : c.position.result ≡ position (λ b. nat_eq b 10) c.args.s.now =
    position_from_yields_List (λ b. nat_eq b 10) _ _ c.position.result c.position.ensures.ran (YieldsList-from_slice c.args.s.now cc) (λ x b q k. search (rules, tests)) in
    line_behind _ found (search rules)
