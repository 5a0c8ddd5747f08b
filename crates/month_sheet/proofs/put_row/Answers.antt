-- `month_sheet::put_row`: item after item. Assumes nothing.
use native.Mathlib.Omega.{arith}
use Prim.Native.Nat.{◌≤◌}
use lib.ListN.{length}
use Rattle.writing.proofs.Left.{left-all, left-room, left-next, left-last, next-room}
use Rattle.month_sheet.specs.Sheet.{row_text, longest_row}
use Rattle.month_sheet.proofs.Lengths.{row-room, row-short}
use Prim.Native.Nat.{◌+◌, ◌/◌, ◌%◌}
use mathlib.Core.Path.{sym, ap}
use Rattle.writing.proofs.Puts.{put_as, room_as}
use Rattle.month_sheet.specs.Sheet.{share_text}
use borrow.Author.Rules.{rules}
use Rattle.month_sheet.proofs.put_row.Goals as goal

pub put_item-direction-requires : goal.put_item-direction-requires
unfolding row_text
put_item-direction-requires c =
    let whole = row-room c.args.buffer.now c.args.at c.args.row c.args.sums.calls c.args.sums.bits c.args.sums.blocks c.args.all c.requires (search rules) (search rules) (search rules) (search rules) in
    next-room _ whole left-all

pub put_item-accepted-requires : goal.put_item-accepted-requires
unfolding row_text
put_item-accepted-requires c =
    let whole = row-room c.args.buffer.now c.args.at c.args.row c.args.sums.calls c.args.sums.bits c.args.sums.blocks c.args.all c.requires (search rules) (search rules) (search rules) (search rules) in
    next-room _ whole (left-next left-all c.put_item-direction.ensures)

pub put_item-ciphered-requires : goal.put_item-ciphered-requires
unfolding row_text
put_item-ciphered-requires c =
    let whole = row-room c.args.buffer.now c.args.at c.args.row c.args.sums.calls c.args.sums.bits c.args.sums.blocks c.args.all c.requires (search rules) (search rules) (search rules) (search rules) in
    next-room _ whole (left-next (left-next left-all c.put_item-direction.ensures) c.put_item-accepted.ensures)

pub put_item-used-requires : goal.put_item-used-requires
unfolding row_text
put_item-used-requires c =
    let whole = row-room c.args.buffer.now c.args.at c.args.row c.args.sums.calls c.args.sums.bits c.args.sums.blocks c.args.all c.requires (search rules) (search rules) (search rules) (search rules) in
    next-room _ whole (left-next (left-next (left-next left-all c.put_item-direction.ensures) c.put_item-accepted.ensures) c.put_item-ciphered.ensures)

pub put_item-share-requires : goal.put_item-share-requires
unfolding row_text
put_item-share-requires c =
    let whole = row-room c.args.buffer.now c.args.at c.args.row c.args.sums.calls c.args.sums.bits c.args.sums.blocks c.args.all c.requires (search rules) (search rules) (search rules) (search rules) in
    next-room _ whole (left-next (left-next (left-next (left-next left-all c.put_item-direction.ensures) c.put_item-accepted.ensures) c.put_item-ciphered.ensures) c.put_item-used.ensures)

pub put_pair-requires : goal.put_pair-requires
unfolding row_text share_text
put_pair-requires c =
    let whole = row-room c.args.buffer.now c.args.at c.args.row c.args.sums.calls c.args.sums.bits c.args.sums.blocks c.args.all c.requires (search rules) (search rules) (search rules) (search rules) in
    room_as (sym (ap (λ s. share_text s.top s.bottom) c.share_of-part.ensures))
    (left-room whole (left-next (left-next (left-next (left-next (left-next left-all c.put_item-direction.ensures) c.put_item-accepted.ensures) c.put_item-ciphered.ensures) c.put_item-used.ensures) c.put_item-share.ensures))

pub returns : goal.returns
unfolding row_text share_text
returns c =
    let short : length (row_text (c.args.row / 2 + 1) (c.args.row % 2 + 1) c.args.sums.calls c.args.sums.bits c.args.sums.blocks c.args.all) ≤ longest_row =
    row-short _ _ _ _ (omega arith) (omega arith) (search rules) (search rules) _ _ (search rules) (search rules)
    in
    let put = left-last (left-next (left-next (left-next (left-next (left-next left-all c.put_item-direction.ensures) c.put_item-accepted.ensures) c.put_item-ciphered.ensures) c.put_item-used.ensures) c.put_item-share.ensures) (put_as (ap (λ s. share_text s.top s.bottom) c.share_of-part.ensures) c.put_pair.ensures) in
    (omega (arith, put.ends, short), put)
