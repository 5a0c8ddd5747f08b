-- `schedule::key_words`: `Filled` to 6. Assumes nothing.
use mathlib.Core.Path.{◌∙◌}
use borrow.Author.Rules.{rules}
use Rattle.schedule.specs.Schedule.{packed}
use Rattle.laws.proofs.Lists.{fill_none, fill_more, fill-to}
use Rattle.schedule.proofs.KeyWords.{word_first}
use Rattle.schedule.proofs.key_words.Goals as goal

pub loop-i-init : goal.loop-i-init
loop-i-init c = (search rules, fill_none (search rules))

pub loop-i-preserved : goal.loop-i-preserved
unfolding packed
loop-i-preserved c =
    let g = c.loop-i.invariant in
    (search rules, fill_more g.1 (search rules) _ (c.join_bytes.ensures ∙ word_first _ _ c.loop-i-test.true))

pub returns : goal.returns
returns c = fill-to c.loop-i.invariant.1 (search rules)
