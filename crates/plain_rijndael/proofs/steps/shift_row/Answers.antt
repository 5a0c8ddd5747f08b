-- `plain_rijndael::steps::shift_row`: cell by cell. Assumes nothing.
use mathlib.Core.Path.{ap}
use Prim.Native.Nat.{ℕ, ◌+◌, ◌-◌, ◌%◌, ◌<◌, zero-le}
use native.Mathlib.Omega.{arith}
use borrow.Author.Tests.{ltb-true}
use lib.Dec.{ltb}
use Rattle.laws.proofs.Tests.{holds}
use Rattle.round_steps.specs.Steps.{shift_of, shift_row}
use Rattle.laws.proofs.States.{state-shape}
use Rattle.laws.proofs.InRows.{in-rows-none, in-row-none, in-row-more, in-rows-more, in-rows-all}
use Rattle.laws.specs.Lists.{cell}
use Rattle.plain_rijndael.proofs.steps.shift_row.Goals as goal

-- no row turns further than by 4

shift-lt : (r : ℕ) → r < 4 → shift_of r < 8
shift-lt r h = ltb-true (shift_of r) 8 (holds (λ k. ltb (shift_of k) 8) 0 4 tt r zero-le h)

pub overflow_add-t : goal.overflow_add-t
overflow_add-t c =
    omega (arith, shift-lt c.loop-r.r c.loop-c.invariant.0, c.shift_of.ensures, c.loop-c-test.true)

pub loop-c-preserved : goal.loop-c-preserved
loop-c-preserved c =
    in-row-more c.loop-c.invariant c.loop-c-test.true _
    (ap (λ (n : ℕ). cell c.args.s c.loop-r.r ((c.loop-c.c + n) % 8)) c.shift_of.ensures)

pub loop-r-init : goal.loop-r-init
unfolding shift_row
loop-r-init c = in-rows-none (state-shape c.well_formed.0)

pub loop-c-init : goal.loop-c-init
unfolding shift_row
loop-c-init c = in-row-none c.loop-r.invariant c.loop-r-test.true

pub loop-r-preserved : goal.loop-r-preserved
unfolding shift_row
loop-r-preserved c = in-rows-more c.loop-c.invariant c.loop-c-test.false

pub returns : goal.returns
unfolding shift_row
returns c = in-rows-all c.loop-r.invariant c.loop-r-test.false
