-- `line_parts::bare`: what is left without the CR. Assumes nothing.
use Rattle.std.proofs.Common.{ap, ◌∙◌, List, ℕ}
use denote.Ref.{Bor}
use Rattle.line_parts.proofs.Counts.{bare-stripped}
use Rattle.line_parts.proofs.bare.Goals as goal

pub returns : goal.returns
returns c = ap (λ (r : Bor (List ℕ)). r.now) c.unwrap_or.ensures ∙ bare-stripped c.args.line c.strip_suffix.result c.strip_suffix.ensures.cases
