-- `card::table::card_read`: what is shown is what the list shows. Assumes nothing.
use mathlib.Core.Path.{◌∙◌}
use Rattle.slots.specs.Slots.{keyless}
use Rattle.slot_calls.specs.Calls.{shown_of}
use Rattle.card.proofs.SeenTables.{shown-in}
use Rattle.card.proofs.table.card_read.Goals as goal

pub returns : goal.returns
returns c =
    let at = c.args in
    c.show_from.ensures ∙ (λ i. shown_of (c.is_no_table.ensures i) (keyless (c.fields_in.ensures i)) at.number) ∙ shown-in at.t.now at.number
