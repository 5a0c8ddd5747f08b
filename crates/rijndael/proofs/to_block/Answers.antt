-- `rijndael::to_block`: four entries a turn, `Filled`. Assumes nothing.
use mathlib.Core.Path.{refl}
use Prim.Native.Nat.{◌<◌}
use borrow.Author.Rules.{rules}
use Rattle.rijndael.specs.Cipher.{to_block}
use Rattle.laws.proofs.Lists.{fill_none, fill-all}
use Rattle.rijndael.proofs.Rounds.{quarter-more}
use Rattle.rijndael.proofs.to_block.Goals as goal

pub loop-c-init : goal.loop-c-init
loop-c-init c = fill_none refl

pub loop-c-preserved : goal.loop-c-preserved
loop-c-preserved c =
    let s = c.args.s in
    let k = c.loop-c.c in
    let h : k < 8 = c.loop-c-test.true in
    quarter-more s k h c.loop-c.invariant

pub returns : goal.returns
unfolding to_block
returns c = fill-all c.loop-c.invariant (search rules)
