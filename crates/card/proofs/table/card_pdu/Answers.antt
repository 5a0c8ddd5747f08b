-- `card::table::card_pdu`: the call is judged by what the list shows, and a key is read where a piece needs one. Assumes nothing.
use mathlib.Core.Path.{◌≡◌, sym, ap, subst, ◌∙◌}
use Rattle.slots.specs.declared.Slot.{Slot}
use Rattle.slots.specs.Slots.{keyless}
use Rattle.plan.specs.declared.Plan.{Plan}
use Rattle.slot_list.specs.List.{is_no_table, fields_in}
use Rattle.whole.specs.Whole.{judged_plan, WholeMay, whole_after}
use Rattle.whole.proofs.Seen.{whole-may}
use Rattle.faces.specs.Faces.{pdu_as}
use Rattle.card.proofs.SeenTables.{planned, whole_in}
use Rattle.card.proofs.table.card_pdu.Goals as goal

pub pdu_from-requires : goal.pdu_from-requires
pdu_from-requires c =
    let at = c.args in
    let u = pdu_as at.kind at.state at.length at.address at.sdu in
    let is : c.plan_from-p.result ≡ planned at.t.now at.number at.direction at.iv.now at.buf.now u =
    c.plan_from-p.ensures ∙ (λ i. judged_plan (c.is_no_table.ensures i) (keyless (c.fields_in.ensures i)) at.direction at.number at.iv.now at.buf.now u)
    in
    subst (λ (p : Plan). WholeMay p at.iv.now at.buf.now) (sym is)
    (whole-may (is_no_table at.t.now) (keyless (fields_in at.t.now at.number)) at.direction at.number at.iv.now at.buf.now u)

pub returns : goal.returns
returns c =
    let at = c.args in
    let u = pdu_as at.kind at.state at.length at.address at.sdu in
    let is : c.plan_from-p.result ≡ planned at.t.now at.number at.direction at.iv.now at.buf.now u =
    c.plan_from-p.ensures ∙ (λ i. judged_plan (c.is_no_table.ensures i) (keyless (c.fields_in.ensures i)) at.direction at.number at.iv.now at.buf.now u)
    in
    c.pdu_from.ensures
    ∙ ap (λ (s : Slot). whole_after c.plan_from-p.result s at.iv.now at.buf.now) c.slot_in-slot.ensures
    ∙ whole_in at.t.now at.number at.direction at.iv.now at.buf.now u c.plan_from-p.result is c.key_slot.result c.key_slot.ensures
