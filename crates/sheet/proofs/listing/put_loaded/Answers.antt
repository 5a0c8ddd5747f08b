-- `listing::put_loaded`: the text by what was loaded. Assumes nothing.
use Rattle.std.proofs.Common.{Result, List, Ok, Err, refl, sym, ap, ◌∙◌, arith}
use Rattle.refusals.proofs.Judged.{number-above_0}
use Rattle.slots.specs.declared.Slot.{Slot}
use Rattle.writing.proofs.Puts.{put_as}
use Rattle.loading.specs.declared.Refused.{Refused}
use Rattle.loading.specs.Answers.{loaded_of}
use Rattle.sheet.specs.Sheet.{loaded_text}
use Rattle.sheet.proofs.Lines.{text-loaded, text-refused}
use Rattle.sheet.proofs.listing.put_loaded.Goals as goal

pub returns-in-Ok : goal.returns-in-Ok
returns-in-Ok c =
    let put = c.put_table.ensures in
    let text = ap (λ (l : Result (List Slot) Refused). loaded_text (loaded_of l)) (sym c.in-Ok.is) in
    (put.0, put_as (sym (text-loaded (loaded_of (Ok c.in-Ok.table)) refl) ∙ text) put.1)

pub returns-in-Err : goal.returns-in-Err
returns-in-Err c =
    let put = c.put_refusal.ensures in
    let above = number-above_0 c.in-Err.refused.refusal in
    let text = ap (λ (l : Result (List Slot) Refused). loaded_text (loaded_of l)) (sym c.in-Err.is) in
    (put.0, put_as (sym (text-refused (loaded_of (Err c.in-Err.refused)) (λ e. omega arith)) ∙ text) put.1)
