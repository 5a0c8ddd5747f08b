-- `part::name_byte`: by the tests of the part. Assumes nothing.
use borrow.Author.Tests.{eq-eqb, ne_eqb}
use Rattle.call_log.specs.Fed.{part_name, name_byte}
use Rattle.call_log.proofs.part.name_byte.Goals as goal

pub returns-then-part-eq0 : goal.returns-then-part-eq0
unfolding name_byte part_name
returns-then-part-eq0 c = rw (eq-eqb _ _ c.if-part-eq0.true) c.byte_of.ensures

pub returns-then-part-eq1 : goal.returns-then-part-eq1
unfolding name_byte part_name
returns-then-part-eq1 c = rw (ne_eqb _ _ c.if-part-eq0.false, eq-eqb _ _ c.if-part-eq1.true) c.byte_of-then-part-eq1.ensures

pub returns-then-part-eq2 : goal.returns-then-part-eq2
unfolding name_byte part_name
returns-then-part-eq2 c = rw (ne_eqb _ _ c.if-part-eq0.false, ne_eqb _ _ c.if-part-eq1.false, eq-eqb _ _ c.if-part-eq2.true) c.byte_of-then-part-eq2.ensures

pub returns-then-part-eq3 : goal.returns-then-part-eq3
unfolding name_byte part_name
returns-then-part-eq3 c = rw (ne_eqb _ _ c.if-part-eq0.false, ne_eqb _ _ c.if-part-eq1.false, ne_eqb _ _ c.if-part-eq2.false, eq-eqb _ _ c.if-part-eq3.true) c.byte_of-then-part-eq3.ensures

pub returns-then-part-eq4 : goal.returns-then-part-eq4
unfolding name_byte part_name
returns-then-part-eq4 c = rw (ne_eqb _ _ c.if-part-eq0.false, ne_eqb _ _ c.if-part-eq1.false, ne_eqb _ _ c.if-part-eq2.false, ne_eqb _ _ c.if-part-eq3.false, eq-eqb _ _ c.if-part-eq4.true) c.byte_of-then-part-eq4.ensures

pub returns : goal.returns
unfolding name_byte part_name
returns c = rw (ne_eqb _ _ c.if-part-eq0.false, ne_eqb _ _ c.if-part-eq1.false, ne_eqb _ _ c.if-part-eq2.false, ne_eqb _ _ c.if-part-eq3.false, ne_eqb _ _ c.if-part-eq4.false)
