-- `card::table::card_clear`: what the call is judged by is what the list shows. Assumes nothing.
use mathlib.Core.Path.{◌∙◌}
use Rattle.slots.specs.Slots.{keyless}
use Rattle.slot_calls.specs.Answers.{put_of}
use Rattle.slot_calls.specs.Seen.{clear_put}
use Rattle.card.specs.Table.{cleared_in}
use Rattle.card.proofs.Answers.{changed-is}
use Rattle.card.proofs.SeenTables.{cleared-in}
use Rattle.card.proofs.table.card_clear.Goals as goal

pub returns : goal.returns
returns c =
    let at = c.args in
    changed-is (cleared_in at.t.now at.number)
    (cleared-in at.t.now at.number (put_of c.clear_of-put.result)
    (c.clear_of-put.ensures ∙ (λ i. clear_put (c.is_no_table.ensures i) (keyless (c.fields_in.ensures i)) at.number))
    c.number_of.result c.store.new.t (c.number_of.ensures ∙ c.store.ensures.answer, c.store.ensures.after))
