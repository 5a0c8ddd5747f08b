-- `plain_rijndael::to_state`: cell by cell. Assumes nothing.
use mathlib.Core.Path.{refl}
use Prim.Native.Nat.{◌-◌}
use Rattle.rijndael.specs.Cipher.{to_state}
use Rattle.laws.proofs.States.{zero-shape}
use Rattle.laws.proofs.InRows.{in-rows-none, in-row-none, in-row-more, in-rows-more, in-rows-all}
use Rattle.plain_rijndael.proofs.to_state.Goals as goal

pub loop-r-init : goal.loop-r-init
unfolding to_state
loop-r-init c = in-rows-none zero-shape

pub loop-c-init : goal.loop-c-init
unfolding to_state
loop-c-init c = in-row-none c.loop-r.invariant c.loop-r-test.true

pub loop-c-preserved : goal.loop-c-preserved
unfolding to_state
loop-c-preserved c = in-row-more c.loop-c.invariant c.loop-c-test.true _ refl

pub loop-r-preserved : goal.loop-r-preserved
unfolding to_state
loop-r-preserved c = in-rows-more c.loop-c.invariant c.loop-c-test.false

pub returns : goal.returns
unfolding to_state
returns c = in-rows-all c.loop-r.invariant c.loop-r-test.false
