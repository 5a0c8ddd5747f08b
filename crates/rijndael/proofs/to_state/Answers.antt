-- `rijndael::to_state`: column by column, `Columns`. Assumes nothing.
use mathlib.Core.Path.{refl, sym, ap}
use Prim.Native.Nat.{ℕ, ◌*◌}
use native.Mathlib.Nat.{add-zero}
use lib.ListN.{get_or}
use Rattle.rijndael.specs.Cipher.{to_state}
use Rattle.laws.proofs.States.{columns-none, columns-more, columns-all, zero-shape}
use Rattle.rijndael.proofs.to_state.Goals as goal

pub loop-c-init : goal.loop-c-init
loop-c-init c = columns-none zero-shape

pub loop-c-preserved : goal.loop-c-preserved
loop-c-preserved c =
    let b = c.args.b in
    columns-more c.loop-c.invariant c.loop-c-test.true _ _ _ _ (ap (λ (k : ℕ). get_or b k 0) (sym (add-zero (4 * c.loop-c.c)))) refl refl refl

pub returns : goal.returns
unfolding to_state
returns c = columns-all c.loop-c.invariant c.loop-c-test.false
