-- `plain_rijndael::to_block`: byte by byte, `Filled`. Assumes nothing.
use mathlib.Core.Path.{refl}
use Prim.Native.Nat.{◌-◌}
use Rattle.laws.proofs.Lists.{fill_none, fill_more, fill-all}
use Rattle.rijndael.specs.Cipher.{to_block}
use Rattle.plain_rijndael.proofs.to_block.Goals as goal

pub loop-k-init : goal.loop-k-init
loop-k-init c = fill_none refl

pub loop-k-preserved : goal.loop-k-preserved
loop-k-preserved c = fill_more c.loop-k.invariant c.loop-k-test.true _ refl

pub returns : goal.returns
unfolding to_block
returns c = fill-all c.loop-k.invariant c.loop-k-test.false
