-- `tea::mode::mode_by`: both lists are filled side by side. Assumes nothing.
use Rattle.tea.proofs.Halves.{halves-none, halves-more, halves-all}
use Rattle.tea.proofs.mode.mode_by.Goals as goal

pub loop-k-preserved : goal.loop-k-preserved
loop-k-preserved c =
    halves-more c.loop-k.invariant c.loop-k-test.true _ _ _ _ c.combine-x.ensures c.combine-y.ensures c.join_halves.ensures c.join_halves-in-loop-k.ensures

pub loop-k-init : goal.loop-k-init
loop-k-init c = halves-none

pub returns : goal.returns
returns c = halves-all _ c.loop-k.invariant c.loop-k-test.false
