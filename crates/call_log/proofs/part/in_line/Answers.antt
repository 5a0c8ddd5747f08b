-- `part::in_line`: by the tests of how far the part is read. Assumes nothing.
use mathlib.Core.Path.{sym, ap, ◌∙◌}
use Prim.Native.Nat.{ℕ}
use borrow.Author.Tests.{eq-eqb, ne_eqb, le-leb, lt-leb}
use Rattle.call_log.specs.Fed.{name_byte, of_name, in_line}
use Rattle.call_log.proofs.part.in_line.Goals as goal

pub returns-then-m-ge-IN_NUMBER : goal.returns-then-m-ge-IN_NUMBER
unfolding in_line
returns-then-m-ge-IN_NUMBER c = rw (le-leb _ _ c.if-m-ge-IN_NUMBER.true) c.after_digit.ensures

pub returns-then-name-eq0 : goal.returns-then-name-eq0
unfolding in_line
returns-then-name-eq0 c = rw (lt-leb _ _ c.if-m-ge-IN_NUMBER.false, eq-eqb (name_byte c.args.m.part c.args.m.at) 0 (sym c.name_byte-name.ensures ∙ c.if-name-eq0.true)) c.first_digit.ensures

pub returns : goal.returns
unfolding in_line
returns c = rw (lt-leb _ _ c.if-m-ge-IN_NUMBER.false, ne_eqb (name_byte c.args.m.part c.args.m.at) 0 (λ e. c.if-name-eq0.false (c.name_byte-name.ensures ∙ e))) (c.of_name.ensures ∙ ap (λ (n : ℕ). of_name c.args.m n c.args.b) c.name_byte-name.ensures)
