-- `round_steps::shift_row`: column by column, `Columns`; row 0 is stored too, so that one law serves. Assumes nothing.
use mathlib.Core.Path.{refl, ap}
use Rattle.round_steps.specs.Steps.{shift_row}
use Rattle.laws.proofs.States.{columns-none, columns-more, columns-all, state-shape}
use Rattle.laws.proofs.InRows.{not-turned}
use Rattle.laws.specs.Lists.{cell}
use Rattle.round_steps.proofs.shift_row.Goals as goal

pub loop-c-init : goal.loop-c-init
unfolding shift_row
loop-c-init c = columns-none (state-shape c.well_formed.0)

pub loop-c-preserved : goal.loop-c-preserved
unfolding shift_row
loop-c-preserved c = columns-more c.loop-c.invariant c.loop-c-test.true _ _ _ _ (ap (cell c.args.s 0) (not-turned _ c.loop-c-test.true).0) refl refl refl

pub returns : goal.returns
unfolding shift_row
returns c = columns-all c.loop-c.invariant c.loop-c-test.false
