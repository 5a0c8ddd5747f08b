-- `listing::put_refusal`: four numbers of few digits, one after the other. Assumes nothing.
use Rattle.std.proofs.Common.{ℕ, ap}
use native.Mathlib.Omega.{arith}
use borrow.Author.Rules.{rules}
use Rattle.sheet.specs.Sheet.{refusal_text}
use Rattle.writing.proofs.Puts.{put_as}
use Rattle.writing.proofs.Left.{left-all, left-room, left-next, left-last, next-room}
use Rattle.sheet.proofs.Lines.{refusal-short, refusal-room}
use Rattle.sheet.proofs.listing.put_refusal.Goals as goal

pub put_item-record-requires : goal.put_item-record-requires
unfolding refusal_text
put_item-record-requires c =
    let refused = c.args.refused in
    let whole = refusal-room c.args.buffer.now c.number-number.result refused.position refused.line refused.column c.requires (search rules) (search rules) (search rules) (search rules) in
    next-room _ whole left-all

pub put_item-place-requires : goal.put_item-place-requires
unfolding refusal_text
put_item-place-requires c =
    let refused = c.args.refused in
    let whole = refusal-room c.args.buffer.now c.number-number.result refused.position refused.line refused.column c.requires (search rules) (search rules) (search rules) (search rules) in
    next-room _ whole (left-next left-all c.put_item-record.ensures)

pub put_item-last-requires : goal.put_item-last-requires
unfolding refusal_text
put_item-last-requires c =
    let refused = c.args.refused in
    let whole = refusal-room c.args.buffer.now c.number-number.result refused.position refused.line refused.column c.requires (search rules) (search rules) (search rules) (search rules) in
    next-room _ whole (left-next (left-next left-all c.put_item-record.ensures) c.put_item-place.ensures)

pub put_line-requires : goal.put_line-requires
unfolding refusal_text
put_line-requires c =
    let refused = c.args.refused in
    let whole = refusal-room c.args.buffer.now c.number-number.result refused.position refused.line refused.column c.requires (search rules) (search rules) (search rules) (search rules) in
    left-room whole
    (left-next (left-next (left-next left-all c.put_item-record.ensures) c.put_item-place.ensures) c.put_item-last.ensures)

pub returns : goal.returns
unfolding refusal_text
returns c =
    let refused = c.args.refused in
    let short = refusal-short c.number-number.result refused.position refused.line refused.column (search rules) (search rules) (search rules) (search rules) in
    let put =
    left-last (left-next (left-next (left-next left-all c.put_item-record.ensures) c.put_item-place.ensures) c.put_item-last.ensures)
    c.put_line.ensures in
    (omega (arith, put.ends, short), put_as (ap (λ (n : ℕ). refusal_text n refused.position refused.line refused.column) c.number-number.ensures) put)
