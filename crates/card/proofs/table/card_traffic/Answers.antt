-- `card::table::card_traffic`: the call is judged by what the list shows, and a key is read where it is not refused. Assumes nothing.
use mathlib.Core.Path.{◌≡◌, sym, ap, ◌∙◌}
use Rattle.slots.specs.declared.Slot.{Slot}
use Rattle.slots.specs.Slots.{keyless}
use Rattle.slot_list.specs.List.{is_no_table, fields_in}
use Rattle.traffic.specs.Traffic.{traffic_refusal_of, traffic_after}
use Rattle.traffic.proofs.Passed.{traffic-may}
use Rattle.card.proofs.SeenTables.{judged, traffic-in}
use Rattle.card.proofs.table.card_traffic.Goals as goal

pub traffic_from-requires : goal.traffic_from-requires
traffic_from-requires c d =
    let at = c.args in
    let is : c.number_of-refusal.result ≡ judged at.t.now at.number at.direction at.iv.now at.buf.now at.start at.n at.skip =
    c.number_of-refusal.ensures
    ∙ c.traffic_refusal-judged.ensures
    ∙ (λ i. traffic_refusal_of (c.is_no_table.ensures i) (keyless (c.fields_in.ensures i)) at.direction at.number at.iv.now at.buf.now at.start at.n at.skip)
    in
    traffic-may (is_no_table at.t.now) (keyless (fields_in at.t.now at.number)) at.direction at.number at.iv.now at.buf.now at.start at.n at.skip (sym is ∙ d)

pub returns : goal.returns
returns c =
    let at = c.args in
    let is : c.number_of-refusal.result ≡ judged at.t.now at.number at.direction at.iv.now at.buf.now at.start at.n at.skip =
    c.number_of-refusal.ensures
    ∙ c.traffic_refusal-judged.ensures
    ∙ (λ i. traffic_refusal_of (c.is_no_table.ensures i) (keyless (c.fields_in.ensures i)) at.direction at.number at.iv.now at.buf.now at.start at.n at.skip)
    in
    c.traffic_from.ensures
    ∙ ap (λ (s : Slot). traffic_after c.number_of-refusal.result s at.iv.now at.buf.now at.start at.n at.skip) c.slot_in-slot.ensures
    ∙ traffic-in at.t.now at.number at.direction at.iv.now at.buf.now at.start at.n at.skip c.number_of-refusal.result is c.key_slot.result c.key_slot.ensures
