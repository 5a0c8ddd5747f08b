-- `rounds::packing::from_words`: column by column, `Columns`. Assumes nothing.
use Rattle.laws.proofs.States.{columns-none, columns-more, columns-all, zero-shape}
use Rattle.rounds.specs.Columns.{of_words}
use Rattle.rounds.proofs.packing.from_words.Goals as goal

pub loop-c-init : goal.loop-c-init
loop-c-init c = columns-none zero-shape

pub loop-c-preserved : goal.loop-c-preserved
loop-c-preserved c =
    columns-more c.loop-c.invariant c.loop-c-test.true _ _ _ _
    c.byte0.ensures c.byte1.ensures c.byte2.ensures c.byte3.ensures

pub returns : goal.returns
unfolding of_words
returns c = columns-all c.loop-c.invariant c.loop-c-test.false
