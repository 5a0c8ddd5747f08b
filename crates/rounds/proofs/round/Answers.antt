-- `rounds::round`: column by column, `by_half`: each is its mixed word with the key. Assumes nothing.
use Rattle.laws.proofs.States.{place_none, state-shape}
use Rattle.rounds.proofs.Columns.{small, fewer, round-more, round-all}
use Rattle.rounds.proofs.round.Goals as goal

pub loop-e-init : goal.loop-e-init
loop-e-init c = place_none (state-shape c.well_formed.0)

pub loop-e-preserved : goal.loop-e-preserved
loop-e-preserved c =
    let a = c.args in
    round-more a.w.now a.n a.s c.loop-e.invariant c.loop-e-test.true _ c.mixed_word.ensures _ _ _ _
    c.byte0.ensures c.byte1.ensures c.byte2.ensures c.byte3.ensures

pub overflow_step-e : goal.overflow_step-e
overflow_step-e c = record { fits = small _ c.loop-e-test.true }

pub loop-e-smaller : goal.loop-e-smaller
loop-e-smaller c = fewer _ c.loop-e-test.true

pub returns : goal.returns
returns c =
    let a = c.args in
    round-all a.w.now a.n a.s c.loop-e.invariant c.loop-e-test.false
