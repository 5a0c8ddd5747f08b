-- `call_log::feed_byte`: by the tests of what is read so far. Assumes nothing.
use mathlib.Core.Path.{sym, ap, ◌∙◌}
use borrow.Author.Tests.{not-true, not-false}
use Rattle.call_log.specs.Fed.{fed_to}
use Rattle.call_log.proofs.Bytes.{byte-wrong, byte-ends, byte-in}
use Rattle.call_log.proofs.feed_byte.Goals as goal

pub returns-then-not-m : goal.returns-then-not-m
returns-then-not-m c = sym (byte-wrong (fed_to c.args.m c.args.figures.now) _ (not-true _ c.if-not-m.true))

pub returns-then-ends_line : goal.returns-then-ends_line
returns-then-ends_line c =
    c.end_line.ensures
    ∙ sym (byte-ends (fed_to c.args.m c.args.figures.now) _ (not-false _ c.if-not-m.false) (sym c.ends_line.ensures ∙ c.if-ends_line.true))

pub returns : goal.returns
returns c =
    ap (λ m. fed_to m c.args.figures.now) c.in_line.ensures
    ∙ sym (byte-in (fed_to c.args.m c.args.figures.now) _ (not-false _ c.if-not-m.false) (sym c.ends_line.ensures ∙ c.if-ends_line.false))
