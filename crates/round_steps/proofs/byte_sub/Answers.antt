-- `round_steps::byte_sub`: cell by cell. Assumes nothing.
use Rattle.round_steps.specs.Steps.{byte_sub}
use Rattle.laws.proofs.States.{state-shape}
use Rattle.laws.proofs.InRows.{in-rows-none, in-row-none, in-row-more, in-rows-more, in-rows-all}
use Rattle.round_steps.proofs.byte_sub.Goals as goal

pub loop-r-init : goal.loop-r-init
unfolding byte_sub
loop-r-init c = in-rows-none (state-shape c.well_formed.0)

pub loop-c-init : goal.loop-c-init
unfolding byte_sub
loop-c-init c = in-row-none c.loop-r.invariant c.loop-r-test.true

pub loop-c-preserved : goal.loop-c-preserved
unfolding byte_sub
loop-c-preserved c = in-row-more c.loop-c.invariant c.loop-c-test.true _ c.substitute.ensures

pub loop-r-preserved : goal.loop-r-preserved
unfolding byte_sub
loop-r-preserved c = in-rows-more c.loop-c.invariant c.loop-c-test.false

pub returns : goal.returns
unfolding byte_sub
returns c = in-rows-all c.loop-r.invariant c.loop-r-test.false
