-- `card::table::carry`: the slot is carried only where what the list shows of it was judged, and the two puts make the moved list. Assumes nothing.
use mathlib.Core.Bool.{Bool}
use mathlib.Core.List.{List}
use mathlib.Core.Path.{◌≡◌, refl, sym, ap, ◌∙◌}
use Prim.Native.Nat.{ℕ}
use lib.Dec.{eqb}
use Rattle.std.proofs.lemmas.Result.{err_from_is_err_and}
use Rattle.refusals.specs.Numbers.{done}
use Rattle.refusals.specs.Refused.{number, number_of}
use Rattle.refusals.proofs.Judged.{refused-not_done}
use Rattle.fields.specs.declared.Fields.{Fields}
use Rattle.rights.specs.Rights.{stays_within}
use Rattle.slots.specs.declared.Slot.{Slot}
use Rattle.slots.specs.Slots.{keyless}
use Rattle.slot_calls.specs.Answers.{put_of}
use Rattle.slot_calls.specs.Calls.{move_refusal_of}
use Rattle.slot_calls.specs.Seen.{key_slot, move_put, emptied_by}
use Rattle.slot_list.specs.List.{is_no_table, fields_in}
use Rattle.card.specs.Table.{moved_in}
use Rattle.card.proofs.Answers.{changed-is}
use Rattle.card.proofs.SeenTables.{moving, carried-within, moved_in-put, put_refused}
use Rattle.card.proofs.table.carry.Goals as goal

-- the refusal, by what the list shows
sees : (ys : List Slot) (from to asked : ℕ) (bad : Bool) (f g : Fields) (r : ℕ) → bad ≡ is_no_table ys → f ≡ fields_in ys from → g ≡ fields_in ys to
    → r ≡ move_refusal_of bad (keyless f) (keyless g) from to asked → r ≡ moving ys from to asked
sees ys from to asked bad f g r b source-is target-is e = e ∙ (λ i. move_refusal_of (b i) (keyless (source-is i)) (keyless (target-is i)) from to asked)

-- whose key is read, by the refusal itself
reads : (from n r k : ℕ) → n ≡ r → k ≡ key_slot (eqb n done) from → k ≡ key_slot (eqb r done) from
reads from n r k e f = f ∙ ap (λ (m : ℕ). key_slot (eqb m done) from) e

pub carried-put-requires : goal.carried-put-requires
carried-put-requires c d =
    let at = c.args in
    let judged = sees at.t.now at.from at.to at.asked _ _ _ _ c.is_no_table.ensures c.fields_in.ensures c.fields_in-2.ensures c.move_refusal-judged.ensures in
    ap (λ (s : Slot). stays_within s.fields.usage at.asked) c.slot_in-slot.ensures
    ∙ carried-within at.t.now at.from at.to at.asked _ judged c.key_slot.result (reads at.from _ _ _ c.number_of.ensures c.key_slot.ensures) d

pub returns-in_err-store : goal.returns-in_err-store
returns-in_err-store c =
    let at = c.args in
    let judged = sees at.t.now at.from at.to at.asked _ _ _ _ c.is_no_table.ensures c.fields_in.ensures c.fields_in-2.ensures c.move_refusal-judged.ensures in
    let refused = err_from_is_err_and c.from_residual.result c.from_residual.ensures.1 in
    let put = put_of c.carried-put.result in
    let ys = c.store.new.t in
    let answer = c.in_err-store.ensures.answer in
    rw (refused.1, refused.2)
    (changed-is (moved_in at.t.now at.from at.to at.asked)
    (moved_in-put at.t.now at.from at.to at.asked _ judged c.key_slot.result (reads at.from _ _ _ c.number_of.ensures c.key_slot.ensures)
    put (c.carried-put.ensures ∙ ap (λ (s : Slot). move_put (number_of c.move_refusal-judged.result) s at.asked) c.slot_in-slot.ensures)
    ys c.in_err-store.ensures.after (emptied_by put) refl
    (number c.in_err-store.field-0.0) ys (answer, sym (put_refused ys at.from (emptied_by put) (ap (λ (n : ℕ). eqb n done) (sym answer) ∙ refused-not_done _)))))

pub returns : goal.returns
returns c =
    let at = c.args in
    let judged = sees at.t.now at.from at.to at.asked _ _ _ _ c.is_no_table.ensures c.fields_in.ensures c.fields_in-2.ensures c.move_refusal-judged.ensures in
    changed-is (moved_in at.t.now at.from at.to at.asked)
    (moved_in-put at.t.now at.from at.to at.asked _ judged c.key_slot.result (reads at.from _ _ _ c.number_of.ensures c.key_slot.ensures)
    (put_of c.carried-put.result) (c.carried-put.ensures ∙ ap (λ (s : Slot). move_put (number_of c.move_refusal-judged.result) s at.asked) c.slot_in-slot.ensures)
    c.store.new.t c.store.ensures.after (put_of c.emptied.result) c.emptied.ensures
    (number_of c.store-2.result) c.store-2.new.t (c.store-2.ensures.answer, c.store-2.ensures.after))
