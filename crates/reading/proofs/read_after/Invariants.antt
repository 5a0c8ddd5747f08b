-- `reading::read_after`: what is to be answered stays the same with each digit. Assumes nothing.
use Rattle.std.proofs.Common.{◌≡◌}
use Rattle.forms.specs.Form.{read_at}
use Rattle.forms.specs.Decimals.{after}
use Rattle.reading.proofs.read_after.Given as goal

abbrev pub invariant-loop-i : goal.invariant-loop-i
invariant-loop-i l = read_at (after l.high l.n) l.s l.at ≡ read_at (after l.high l.value) l.s l.i
