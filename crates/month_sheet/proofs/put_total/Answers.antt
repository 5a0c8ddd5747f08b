-- `month_sheet::put_total`: item after item. Assumes nothing.
use native.Mathlib.Omega.{arith}
use Prim.Native.Nat.{◌≤◌}
use lib.ListN.{length}
use Rattle.writing.proofs.Left.{left-all, left-room, left-next, left-last, next-room}
use Rattle.month_sheet.specs.Sheet.{total_text, longest_total}
use Rattle.month_sheet.proofs.Lengths.{total-room, total-short}
use borrow.Author.Rules.{rules}
use Rattle.month_sheet.proofs.put_total.Goals as goal

pub put_item-accepted-requires : goal.put_item-accepted-requires
unfolding total_text
put_item-accepted-requires c =
    let whole = total-room c.args.buffer.now c.args.at c.args.lines c.args.sums.calls c.args.sums.bits c.args.sums.blocks c.requires (search rules) (search rules) (search rules) (search rules) in
    next-room _ whole left-all

pub put_item-ciphered-requires : goal.put_item-ciphered-requires
unfolding total_text
put_item-ciphered-requires c =
    let whole = total-room c.args.buffer.now c.args.at c.args.lines c.args.sums.calls c.args.sums.bits c.args.sums.blocks c.requires (search rules) (search rules) (search rules) (search rules) in
    next-room _ whole (left-next left-all c.put_item-accepted.ensures)

pub put_pair-requires : goal.put_pair-requires
unfolding total_text
put_pair-requires c =
    let whole = total-room c.args.buffer.now c.args.at c.args.lines c.args.sums.calls c.args.sums.bits c.args.sums.blocks c.requires (search rules) (search rules) (search rules) (search rules) in
    left-room whole (left-next (left-next left-all c.put_item-accepted.ensures) c.put_item-ciphered.ensures)

pub returns : goal.returns
unfolding total_text
returns c =
    let short : length (total_text c.args.lines c.args.sums.calls c.args.sums.bits c.args.sums.blocks) ≤ longest_total =
    total-short _ _ _ _ (search rules) (search rules) (search rules) (search rules)
    in
    let put = left-last (left-next (left-next left-all c.put_item-accepted.ensures) c.put_item-ciphered.ensures) c.put_pair.ensures in
    (omega (arith, put.ends, short), put)
