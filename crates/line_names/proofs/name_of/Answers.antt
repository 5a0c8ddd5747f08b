-- `line_names::name_of`: the first of the ten that is written so. Assumes nothing.
use Rattle.std.proofs.Common.{sym, ap, ◌∙◌, arith}
use Rattle.line_names.specs.Names.{name_number}
use Rattle.line_names.proofs.Same.{number-is, number-none}
use Rattle.line_names.proofs.name_of.Goals as goal

pub returns-then-is_written : goal.returns-then-is_written
returns-then-is_written c =
    number-is 0 (omega arith) _ (sym c.is_written.ensures ∙ c.if-is_written.true) ∙ ap name_number c.name_in-name.ensures

pub returns-then-is_written-2 : goal.returns-then-is_written-2
returns-then-is_written-2 c =
    number-is 1 (omega arith) _ (sym c.is_written-2.ensures ∙ c.if-is_written-2.true) ∙ ap name_number c.name_in-name.ensures

pub returns-then-is_written-3 : goal.returns-then-is_written-3
returns-then-is_written-3 c =
    number-is 2 (omega arith) _ (sym c.is_written-3.ensures ∙ c.if-is_written-3.true) ∙ ap name_number c.name_in-name.ensures

pub returns-then-is_written-4 : goal.returns-then-is_written-4
returns-then-is_written-4 c =
    number-is 3 (omega arith) _ (sym c.is_written-4.ensures ∙ c.if-is_written-4.true) ∙ ap name_number c.name_in-name.ensures

pub returns-then-is_written-5 : goal.returns-then-is_written-5
returns-then-is_written-5 c =
    number-is 4 (omega arith) _ (sym c.is_written-5.ensures ∙ c.if-is_written-5.true) ∙ ap name_number c.name_in-name.ensures

pub returns-then-is_written-6 : goal.returns-then-is_written-6
returns-then-is_written-6 c =
    number-is 5 (omega arith) _ (sym c.is_written-6.ensures ∙ c.if-is_written-6.true) ∙ ap name_number c.name_in-name.ensures

pub returns-then-is_written-7 : goal.returns-then-is_written-7
returns-then-is_written-7 c =
    number-is 6 (omega arith) _ (sym c.is_written-7.ensures ∙ c.if-is_written-7.true) ∙ ap name_number c.name_in-name.ensures

pub returns-then-is_written-8 : goal.returns-then-is_written-8
returns-then-is_written-8 c =
    number-is 7 (omega arith) _ (sym c.is_written-8.ensures ∙ c.if-is_written-8.true) ∙ ap name_number c.name_in-name.ensures

pub returns-then-is_written-9 : goal.returns-then-is_written-9
returns-then-is_written-9 c =
    number-is 8 (omega arith) _ (sym c.is_written-9.ensures ∙ c.if-is_written-9.true) ∙ ap name_number c.name_in-name.ensures

pub returns-then-is_written-10 : goal.returns-then-is_written-10
returns-then-is_written-10 c =
    number-is 9 (omega arith) _ (sym c.is_written-10.ensures ∙ c.if-is_written-10.true) ∙ ap name_number c.name_in-name.ensures

pub returns : goal.returns
returns c =
    sym
    (number-none _
    (sym c.is_written.ensures ∙ c.if-is_written.false)
    (sym c.is_written-2.ensures ∙ c.if-is_written-2.false)
    (sym c.is_written-3.ensures ∙ c.if-is_written-3.false)
    (sym c.is_written-4.ensures ∙ c.if-is_written-4.false)
    (sym c.is_written-5.ensures ∙ c.if-is_written-5.false)
    (sym c.is_written-6.ensures ∙ c.if-is_written-6.false)
    (sym c.is_written-7.ensures ∙ c.if-is_written-7.false)
    (sym c.is_written-8.ensures ∙ c.if-is_written-8.false)
    (sym c.is_written-9.ensures ∙ c.if-is_written-9.false)
    (sym c.is_written-10.ensures ∙ c.if-is_written-10.false))
    ∙ ap name_number c.name_in-name.ensures
