-- `reading::read_word`: the bytes, and then the value. Assumes nothing.
use Rattle.std.proofs.Common.{sym, ap, ◌∙◌}
use Rattle.reading.specs.Reading.{answer, onward, reading_of}
use Rattle.reading.proofs.Steps.{on_then, passed-on, step-done}
use Rattle.reading.proofs.read_word.Goals as goal

pub returns-in_err-end : goal.returns-in_err-end
unfolding onward
returns-in_err-end c =
    passed-on _ c.from_residual.ensures.1 ∙ sym (ap answer (on_then (reading_of c.args.before) _ _ c.args.s.now c.in_err-end.ensures))

pub returns : goal.returns
unfolding onward
returns c = sym (ap answer (on_then (reading_of c.args.before) _ _ c.args.s.now c.in_ok-end.ensures ∙ step-done _ _ _))
