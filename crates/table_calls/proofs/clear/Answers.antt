-- `table_calls::clear`: by what is seen of the table. Assumes nothing.
use mathlib.Core.Bool.{Bool}
use mathlib.Core.List.{List}
use mathlib.Core.Path.{◌≡◌, sym, ap, ◌∙◌}
use Prim.Native.Nat.{ℕ}
use Rattle.std.proofs.lemmas.Result.{err_from_is_err_and}
use Rattle.fields.specs.declared.Fields.{Fields}
use Rattle.slots.specs.declared.Slot.{Slot}
use Rattle.slots.specs.Slots.{has_bad, keyless}
use Rattle.slot_calls.specs.declared.Put.{Put}
use Rattle.slot_calls.specs.Calls.{cleared}
use Rattle.slot_calls.specs.Seen.{clear_put, changed_by, slot_as}
use Rattle.slot_calls.proofs.AsSeen.{slot-there}
use Rattle.slot_calls.proofs.Puts.{clear-put, refused-changes}
use Rattle.slot_calls.proofs.Passed.{clear-passed-of}
use Rattle.table_calls.proofs.clear.Goals as goal

-- the slot's put, by what is seen, gives the answer
answers : (table : List Slot) (number : ℕ) (bad : Bool) (f : Fields) (put : Put) → bad ≡ has_bad table → f ≡ (slot_as table number).fields
    → put ≡ clear_put bad (keyless f) number → changed_by table number put ≡ cleared table number
answers table number bad f put b g p =
    ap (changed_by table number) (p ∙ (λ i. clear_put (b i) (keyless (g i)) number))
    ∙ clear-put _ table number _ (slot-there table number)

pub returns-in_err-slot : goal.returns-in_err-slot
returns-in_err-slot c =
    let refused = err_from_is_err_and c.from_residual.result c.from_residual.ensures.1 in
    rw (refused.1, refused.2)
    (refused-changes c.args.table c.args.number _ ∙ answers _ _ _ _ _ c.table_is_bad-bad.ensures c.fields_or_none.ensures c.in_err-slot.ensures)

pub with_slot-requires : goal.with_slot-requires
with_slot-requires c = (clear-passed-of _ _ _ (ap (λ (p : Put). p.refusal) (sym c.in_ok-slot.ensures))).slot.numbered

pub returns : goal.returns
returns c = rw c.with_slot.ensures (answers _ _ _ _ _ c.table_is_bad-bad.ensures c.fields_or_none.ensures c.in_ok-slot.ensures)
