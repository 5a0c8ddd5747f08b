-- `slots::all_zero`: the bytes passed are all zero where their join is. Assumes nothing.
use mathlib.Core.Path.{sym, ◌∙◌}
use borrow.Author.Rules.{rules}
use Rattle.slots.proofs.Zeros.{zeros-more, zeros-all}
use Rattle.slots.proofs.all_zero.Goals as goal

pub loop-b-preserved : goal.loop-b-preserved
loop-b-preserved c = zeros-more c.args.key c.loop-b.b-index c.loop-b.joined (search rules) ∙ c.loop-b.invariant

pub returns : goal.returns
returns c = sym (zeros-all c.args.key c.loop-b.b-index c.loop-b.joined (search rules)) ∙ c.loop-b.invariant
