-- `rounds::packing::first_keyed_words`: word by word, `Packed`. Assumes nothing.
use mathlib.Core.Path.{refl}
use Rattle.round_steps.specs.Steps.{add_round_key}
use Rattle.rounds.proofs.Columns.{pack-none, pack-all, keyed-more}
use Rattle.rounds.proofs.packing.first_keyed_words.Goals as goal

pub loop-c-init : goal.loop-c-init
loop-c-init c = pack-none refl

pub loop-c-preserved : goal.loop-c-preserved
loop-c-preserved c =
    let a = c.args in
    keyed-more a.w.now a.s c.loop-c.invariant c.loop-c-test.true _ c.column_word.ensures

pub returns : goal.returns
unfolding add_round_key
returns c = pack-all _ c.loop-c.invariant c.loop-c-test.false
