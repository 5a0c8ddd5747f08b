-- `line_faults::zeros_dropped`: by the name. Assumes nothing.
use Rattle.std.proofs.Common.{sym, ◌∙◌, rules}
use Rattle.line_faults.specs.Faults.{zeros_dropped}
use Rattle.line_faults.proofs.Hexes.{decimal-found}
use Rattle.line_faults.proofs.zeros_dropped.Goals as goal

pub returns-then-is_none_or : goal.returns-then-is_none_or
unfolding zeros_dropped
returns-then-is_none_or c =
    rw (sym (decimal-found _ c.args.name _ c.is_none_or.ensures (λ k h. search rules)) ∙ c.if-is_none_or.true) c.zeros_in.ensures

pub returns-else-is_none_or : goal.returns-else-is_none_or
unfolding zeros_dropped
returns-else-is_none_or c =
    rw (sym (decimal-found _ c.args.name _ c.is_none_or.ensures (λ k h. search rules)) ∙ c.if-is_none_or.false)
