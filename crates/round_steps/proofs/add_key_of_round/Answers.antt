-- `round_steps::add_key_of_round`: column by column, `Columns`. Assumes nothing.
use mathlib.Core.Path.{ap}
use lib.Bits.{bit_xor}
use Rattle.round_steps.specs.Steps.{add_round_key}
use Rattle.laws.proofs.States.{columns-none, columns-more, columns-all, state-shape}
use Rattle.laws.specs.Lists.{cell}
use Rattle.round_steps.proofs.add_key_of_round.Goals as goal

pub loop-c-init : goal.loop-c-init
loop-c-init c = columns-none (state-shape c.well_formed.0)

pub loop-c-preserved : goal.loop-c-preserved
loop-c-preserved c =
    let s = c.args.s in
    let k = c.loop-c.c in
    columns-more c.loop-c.invariant
    c.loop-c-test.true
    _ _ _ _
    (ap (bit_xor (cell s 0 k)) c.byte0.ensures)
    (ap (bit_xor (cell s 1 k)) c.byte1.ensures)
    (ap (bit_xor (cell s 2 k)) c.byte2.ensures)
    (ap (bit_xor (cell s 3 k)) c.byte3.ensures)

pub returns : goal.returns
unfolding add_round_key
returns c = columns-all c.loop-c.invariant c.loop-c-test.false
