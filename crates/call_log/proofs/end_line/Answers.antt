-- `call_log::end_line`: by the tests of the line's number and of its numbers. Assumes nothing.
use mathlib.Core.Path.{sym, ap, ◌∙◌}
use borrow.Author.Tests.{le-leb, lt-leb}
use Rattle.logged_calls.specs.Log.{is_sound}
use Rattle.call_log.specs.Fed.{fed_to, taken, ended}
use Rattle.logged_calls.specs.Figures.{added}
use Rattle.call_log.proofs.end_line.Goals as goal

pub returns-then-m-gt-MOST_LINES : goal.returns-then-m-gt-MOST_LINES
unfolding ended taken
returns-then-m-gt-MOST_LINES c = rw (lt-leb _ _ c.if-m-gt-MOST_LINES.true) (ap (λ m. fed_to m c.args.figures.now) c.stopped.ensures)

pub returns-then-not-is_sound : goal.returns-then-not-is_sound
unfolding ended taken
returns-then-not-is_sound c = rw (le-leb _ _ c.if-m-gt-MOST_LINES.false, sym (ap is_sound c.call_of-c.ensures) ∙ (sym c.is_sound.ensures ∙ c.if-not-is_sound.true)) (ap (λ m. fed_to m c.args.figures.now) c.stopped-then-not-is_sound.ensures)

pub add-requires : goal.add-requires
add-requires c = sym c.is_sound.ensures ∙ c.if-not-is_sound.false

pub returns : goal.returns
unfolding ended taken
returns c = rw (le-leb _ _ c.if-m-gt-MOST_LINES.false, sym (ap is_sound c.call_of-c.ensures) ∙ (sym c.is_sound.ensures ∙ c.if-not-is_sound.false)) (λ i. fed_to (c.line_start.ensures i) ((c.add.ensures ∙ ap (added c.args.figures.now) c.call_of-c.ensures) i))
