-- `reading::read_line`: the name, and then the number. Assumes nothing.
use Rattle.std.proofs.Common.{sym, ap, ◌∙◌}
use Rattle.reading.specs.Reading.{answer}
use Rattle.reading.proofs.Steps.{on_then}
use Rattle.reading.proofs.read_line.Goals as goal

pub returns : goal.returns
returns c = c.read_bounded.ensures ∙ sym (ap answer (on_then _ _ _ _ c.read_literal.ensures))
