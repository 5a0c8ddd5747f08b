-- `table_calls::move_slot`: by what is seen of the table. Assumes nothing.
use mathlib.Core.Bool.{Bool}
use mathlib.Core.List.{List}
use mathlib.Core.Path.{◌≡◌, sym, ap, ◌∙◌}
use Prim.Native.Nat.{ℕ}
use Rattle.std.proofs.lemmas.Result.{err_from_is_err_and}
use Rattle.laws.specs.Choice.{pick}
use Rattle.refusals.specs.Numbers.{done}
use Rattle.fields.specs.declared.Fields.{Fields}
use Rattle.slots.specs.declared.Slot.{Slot}
use Rattle.slots.specs.Slots.{has_bad, empty, keyless, slot_at}
use Rattle.rights.specs.Rights.{stays_within}
use Rattle.slot_calls.specs.declared.Put.{Put}
use Rattle.slot_calls.specs.Calls.{move_refusal_of, moved}
use Rattle.slot_calls.specs.Seen.{slot_as, move_put, emptied_by, put_to, changed_by}
use Rattle.slot_calls.proofs.AsSeen.{slot-there}
use Rattle.slot_calls.proofs.Puts.{move-put, refused-moves}
use Rattle.slot_calls.proofs.Passed.{MovePassedOf, move-passed-of}
use Rattle.table_calls.proofs.move_slot.Goals as goal

abbrev refusal : Put → ℕ
refusal p = p.refusal

-- by what the table shows: the refusal, what holds where there is none, and the answer that the target's put gives

module _ (table : List Slot) (from to asked : ℕ) where
  abbrev source : Slot
  source = keyless (slot_as table from).fields

  abbrev target : Slot
  target = keyless (slot_as table to).fields

  abbrev judged : ℕ
  judged = move_refusal_of (has_bad table) source target from to asked

  abbrev Passes : Type 0
  Passes = MovePassedOf (has_bad table) source target from to asked

  sees : (bad : Bool) (f g : Fields) (r : ℕ) → bad ≡ has_bad table → f ≡ (slot_as table from).fields → g ≡ (slot_as table to).fields
      → r ≡ move_refusal_of bad (keyless f) (keyless g) from to asked → r ≡ judged
  sees bad f g r b source-is target-is e = e ∙ (λ i. move_refusal_of (b i) (keyless (source-is i)) (keyless (target-is i)) from to asked)

  passed : (r : ℕ) → r ≡ judged → r ≡ done → Passes
  passed r e d = move-passed-of _ _ _ _ _ _ (sym e ∙ d)

  answers : (r : ℕ) (s : Slot) (put : Put) → r ≡ judged → s ≡ slot_as table from → put ≡ move_put r s asked
      → changed_by (put_to table to put) from (emptied_by put) ≡ moved table from to asked
  answers r s put e there p =
      (λ i. let q = (p ∙ (λ j. move_put (e j) (there j) asked)) i in changed_by (put_to table to q) from (emptied_by q))
      ∙ move-put _ table from to asked _ _ (slot-there table from) (slot-there table to) (slot_as table from)
      (λ d. ap (λ (n : Bool). pick n (slot_at table from) empty) (passed judged (λ i. judged) d).from-numbered)

pub carried-requires : goal.carried-requires
carried-requires c d =
    let a = c.args in
    let r = sees a.table a.from a.to a.asked _ _ _ _ c.table_is_bad.ensures c.fields_or_none.ensures c.fields_or_none-2.ensures c.move_refusal-judged.ensures in
    ap (λ (s : Slot). stays_within s.fields.usage a.asked) c.slot_or_empty.ensures ∙ (passed a.table a.from a.to a.asked _ r d).narrow

pub returns-in_err-slot : goal.returns-in_err-slot
returns-in_err-slot c =
    let a = c.args in
    let refused = err_from_is_err_and c.from_residual.result c.from_residual.ensures.1 in
    let r = sees a.table a.from a.to a.asked _ _ _ _ c.table_is_bad.ensures c.fields_or_none.ensures c.fields_or_none-2.ensures c.move_refusal-judged.ensures in
    rw (refused.1, refused.2)
    (refused-moves a.table a.from a.to _ ∙ answers a.table a.from a.to a.asked _ _ _ r c.slot_or_empty.ensures c.in_err-slot.ensures)

pub with_slot-carried-requires : goal.with_slot-carried-requires
with_slot-carried-requires c =
    let a = c.args in
    let r = sees a.table a.from a.to a.asked _ _ _ _ c.table_is_bad.ensures c.fields_or_none.ensures c.fields_or_none-2.ensures c.move_refusal-judged.ensures in
    let passes : Passes a.table a.from a.to a.asked = passed a.table a.from a.to a.asked _ r (ap refusal (sym c.in_ok-slot.ensures)) in
    cc

pub with_slot-requires : goal.with_slot-requires
with_slot-requires c =
    let a = c.args in
    let r = sees a.table a.from a.to a.asked _ _ _ _ c.table_is_bad.ensures c.fields_or_none.ensures c.fields_or_none-2.ensures c.move_refusal-judged.ensures in
    let passes : Passes a.table a.from a.to a.asked = passed a.table a.from a.to a.asked _ r (ap refusal (sym c.in_ok-slot.ensures)) in
    cc

pub returns : goal.returns
returns c =
    let a = c.args in
    let r = sees a.table a.from a.to a.asked _ _ _ _ c.table_is_bad.ensures c.fields_or_none.ensures c.fields_or_none-2.ensures c.move_refusal-judged.ensures in
    rw (c.with_slot.ensures, c.with_slot-carried.ensures, c.empty_slot.ensures)
    (answers a.table a.from a.to a.asked _ _ _ r c.slot_or_empty.ensures c.in_ok-slot.ensures)
