-- `line_names::same_text`: what is to be answered stays the same with each byte. Assumes nothing.
use mathlib.Core.Path.{refl, sym, ◌∙◌}
use Rattle.line_names.proofs.Same.{same-sizes, same_end, same-other, same-on}
use Rattle.line_names.proofs.same_text.Goals as goal

pub returns-then-s-t : goal.returns-then-s-t
returns-then-s-t c = sym (same-sizes _ _ c.if-s-t.true)

pub loop-i-init : goal.loop-i-init
loop-i-init c = (c.if-s-t.false, refl)

pub returns-then-s-i : goal.returns-then-s-i
returns-then-s-i c =
    sym (c.loop-i.invariant.1 ∙ same-other _ _ _ c.loop-i.invariant.0 c.loop-i-test.true c.if-s-i.true)

pub loop-i-preserved : goal.loop-i-preserved
loop-i-preserved c =
    (c.loop-i.invariant.0, c.loop-i.invariant.1 ∙ same-on _ _ _ c.loop-i.invariant.0 c.loop-i-test.true c.if-s-i.false)

pub returns : goal.returns
returns c = sym (c.loop-i.invariant.1 ∙ same_end _ _ _ c.loop-i.invariant.0 c.loop-i-test.false)
