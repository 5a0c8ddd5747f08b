-- `reading::read_literal`: what is to be answered stays the same with each byte. Assumes nothing.
use Rattle.std.proofs.Common.{◌≡◌, drop}
use Rattle.forms.specs.Form.{read_at, literal}
use Rattle.reading.proofs.read_literal.Given as goal

abbrev pub invariant-loop-b : goal.invariant-loop-b
invariant-loop-b l = read_at (literal l.bytes) l.s l.initial.place ≡ read_at (literal (drop l.b-index l.bytes)) l.s l.place
