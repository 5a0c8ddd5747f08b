-- `card::table::card_load`: what the load is judged by is what the list shows. Assumes nothing.
use mathlib.Core.Path.{◌∙◌}
use Rattle.slots.specs.Slots.{keyless}
use Rattle.slot_calls.specs.Answers.{put_of}
use Rattle.slot_calls.specs.Seen.{load_put}
use Rattle.faces.specs.Faces.{asking}
use Rattle.card.specs.Table.{loaded_in}
use Rattle.card.proofs.Answers.{changed-is}
use Rattle.card.proofs.SeenTables.{loaded-in}
use Rattle.card.proofs.table.card_load.Goals as goal

pub returns : goal.returns
returns c =
    let at = c.args in
    let asked = asking at.version at.algorithm at.usage at.side at.place at.mcc at.mnc in
    changed-is (loaded_in at.t.now at.number asked at.key.now)
    (loaded-in at.t.now at.number asked at.key.now (put_of c.load_from-put.result)
    (c.load_from-put.ensures ∙ (λ i. load_put (c.is_no_table.ensures i) (keyless (c.fields_in.ensures i)) at.number asked at.key.now))
    c.number_of.result c.store.new.t (c.number_of.ensures ∙ c.store.ensures.answer, c.store.ensures.after))
