-- `plain_rijndael::steps::mix_column`: cell by cell. Assumes nothing.
use Prim.Native.Nat.{◌-◌}
use Rattle.round_steps.specs.Steps.{mixed_byte, mix_column}
use Rattle.laws.proofs.States.{state-shape}
use Rattle.laws.proofs.InRows.{in-rows-none, in-row-none, in-row-more, in-rows-more, in-rows-all}
use Rattle.plain_rijndael.proofs.steps.mix_column.Goals as goal

pub loop-c-preserved : goal.loop-c-preserved
loop-c-preserved c =
    in-row-more c.loop-c.invariant c.loop-c-test.true _ c.mixed_byte.ensures

pub loop-r-init : goal.loop-r-init
unfolding mix_column
loop-r-init c = in-rows-none (state-shape c.well_formed.0)

pub loop-c-init : goal.loop-c-init
unfolding mix_column
loop-c-init c = in-row-none c.loop-r.invariant c.loop-r-test.true

pub loop-r-preserved : goal.loop-r-preserved
unfolding mix_column
loop-r-preserved c = in-rows-more c.loop-c.invariant c.loop-c-test.false

pub returns : goal.returns
unfolding mix_column
returns c = in-rows-all c.loop-r.invariant c.loop-r-test.false
