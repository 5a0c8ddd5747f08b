-- `inverse::steps::inv_mix_column`: column by column, `Columns`. Assumes nothing.
use Prim.Native.Nat.{◌-◌}
use Rattle.inv_bytes.specs.Bytes.{inv_mixed_byte}
use Rattle.inv_parts.specs.Steps.{inv_mix_column}
use Rattle.laws.proofs.States.{columns-none, columns-more, columns-all, state-shape}
use Rattle.inverse.proofs.steps.inv_mix_column.Goals as goal

pub loop-c-init : goal.loop-c-init
loop-c-init c = columns-none (state-shape c.well_formed.0)

pub loop-c-preserved : goal.loop-c-preserved
loop-c-preserved c =
    columns-more c.loop-c.invariant
    c.loop-c-test.true
    _ _ _ _
    c.inv_mixed_byte.ensures c.inv_mixed_byte-in-loop-c.ensures c.inv_mixed_byte-in-loop-c-2.ensures c.inv_mixed_byte-in-loop-c-3.ensures

pub returns : goal.returns
unfolding inv_mix_column
returns c = columns-all c.loop-c.invariant c.loop-c-test.false
