-- `bytes::all_hex`: each byte is tested. Assumes nothing.
use Rattle.std.proofs.Common.{◌∙◌, refl, rules, ◌&&◌}
use Rattle.std.specs.List.{list_all}
use Rattle.std.proofs.lemmas.Iterator.{YieldsList-from_slice}
use Rattle.std.proofs.lemmas.Iterator.Search.{all_from_yields_List}
use Rattle.std.proofs.lemmas.List.Recursion.{same_from_clauses}
use Rattle.forms.specs.Hexes.{is_hex}
use Rattle.line_values.specs.Parts.{all_hex}
use Rattle.line_values.proofs.Hexes.{value-some}
use Rattle.line_values.proofs.bytes.all_hex.Goals as goal

pub returns : goal.returns
unfolding all_hex
returns c =
    all_from_yields_List is_hex _ _ c.all.result c.all.ensures.ran (YieldsList-from_slice c.args.s.now cc) (λ x b q k. search (rules, value-some))
    ∙ same_from_clauses (list_all is_hex) all_hex (λ x t. is_hex x && t) refl (λ _ _. refl) (λ _ _. refl) c.args.s.now
