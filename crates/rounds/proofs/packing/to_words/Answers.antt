-- `rounds::packing::to_words`: word by word, `Packed`. Assumes nothing.
use mathlib.Core.Path.{refl, ◌∙◌}
use Rattle.laws.proofs.States.{state-shape}
use Rattle.rounds.proofs.Columns.{pack-none, pack-more, pack-all, own-cells}
use Rattle.rounds.proofs.packing.to_words.Goals as goal

pub loop-c-init : goal.loop-c-init
loop-c-init c = pack-none refl

pub loop-c-preserved : goal.loop-c-preserved
loop-c-preserved c =
    pack-more c.loop-c.invariant c.loop-c-test.true _ c.column_word.ensures

pub returns : goal.returns
returns c = pack-all _ c.loop-c.invariant c.loop-c-test.false ∙ own-cells (state-shape c.well_formed.0)
