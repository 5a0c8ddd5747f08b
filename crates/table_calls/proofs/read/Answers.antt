-- `table_calls::read`: by what is seen of the table. Assumes nothing.
use mathlib.Core.Path.{◌∙◌}
use Rattle.slots.specs.Slots.{keyless}
use Rattle.slot_calls.specs.Calls.{shown_of}
use Rattle.slot_calls.proofs.AsSeen.{slot-there, shown-seen}
use Rattle.table_calls.proofs.read.Goals as goal

pub returns : goal.returns
returns c =
    let a = c.args in
    c.read_of.ensures
    ∙ (λ i. shown_of (c.table_is_bad-bad.ensures i) (keyless (c.fields_or_none.ensures i)) a.number)
    ∙ shown-seen _ a.number _ _ (slot-there a.table a.number)
