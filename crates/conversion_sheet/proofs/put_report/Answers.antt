-- `conversion_sheet::put_report`: the text by what was answered. Assumes nothing.
use Rattle.std.proofs.Common.{rules, arith, ◌≡◌, ◌++◌, sym, refl, ◌∙◌}
use Rattle.refusals.specs.Refused.{number}
use Rattle.conversion_pairs.specs.Answers.{place_of}
use Rattle.conversion.specs.Conversion.{checked_as, passes}
use Rattle.writing.specs.Text.{digits, item, line_text}
use Rattle.writing.specs.Writing.{Room}
use Rattle.writing.proofs.Puts.{put_as}
use Rattle.writing.proofs.Left.{left-all, left-room, left-next, left-last, next-room}
use Rattle.conversion_sheet.proofs.Texts.{text-passed, text-refused, passed-short, refused-short}
use Rattle.conversion_sheet.proofs.put_report.Goals as goal

pub put_line-requires : goal.put_line-requires
put_line-requires c = record { fits = omega (arith, passed-short c.in-Ok.count (omega arith)) }

pub returns-in-Ok : goal.returns-in-Ok
returns-in-Ok c =
    let put = c.put_line.ensures in
    (omega (arith, put.ends, passed-short c.in-Ok.count (omega arith)), put_as (sym (text-passed passes c.in-Ok.count refl) ∙ c.in-Ok.ensures.text) put)

-- refused

pub put_item-end-requires : goal.put_item-end-requires
put_item-end-requires c =
    let number = c.number-number.result in
    let place = c.place-place.result in
    let whole : Room c.args.buffer.now 0 (item "refused=" (digits number) ++ line_text " pair=" (digits place)) =
    record { fits = omega (arith, refused-short number place (omega arith) (omega arith)) } in
    next-room _ whole left-all

pub put_line-requires-in-Err : goal.put_line-requires-in-Err
put_line-requires-in-Err c =
    let number = c.number-number.result in
    let place = c.place-place.result in
    let whole : Room c.args.buffer.now 0 (item "refused=" (digits number) ++ line_text " pair=" (digits place)) =
    record { fits = omega (arith, refused-short number place (omega arith) (omega arith)) } in
    left-room whole (left-next left-all c.put_item-end.ensures)

pub returns-in-Err : goal.returns-in-Err
returns-in-Err c =
    let refused = c.in-Err.refused in
    let put = left-last (left-next left-all c.put_item-end.ensures) c.put_line-in-Err.ensures in
    let some : number refused.refusal ≡ 0 → ⊥ = search rules in
    let text = text-refused (checked_as (number refused.refusal) (place_of refused.pair)) 0 some in (
      omega (arith, put.ends, refused-short c.number-number.result c.place-place.result (omega arith) (omega arith)),
      put_as ((λ i. item "refused=" (digits (c.number-number.ensures i)) ++ line_text " pair=" (digits (c.place-place.ensures i))) ∙ sym text ∙ c.in-Err.ensures.text) put,
    )
