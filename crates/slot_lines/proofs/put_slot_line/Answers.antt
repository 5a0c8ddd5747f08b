-- `slot_lines::put_slot_line`: item after item, in the room of the longest line. Assumes nothing.
use mathlib.Core.Path.{sym, ap}
use Prim.Native.Nat.{◌≤◌}
use native.Mathlib.Omega.{arith}
use borrow.Author.Rules.{rules}
use lib.ListN.{length}
use Rattle.writing.proofs.Puts.{put_as, room_as, put-length}
use Rattle.writing.specs.Text.{item}
use Rattle.slot_lines.specs.Lines.{slot_line, longest_line}
use Rattle.writing.proofs.Left.{left-all, left-room, left-next, left-last, next-room}
use Rattle.slot_lines.proofs.Lines.{line-short, line-room}
use Rattle.slot_lines.proofs.put_slot_line.Goals as goal

-- the place before each item's own

pub put_item-version-requires : goal.put_item-version-requires
unfolding slot_line
put_item-version-requires c =
    let whole = line-room c.args.buffer.now _ _ c.args.f c.requires (search rules) in
    next-room _ whole left-all

pub put_item-algorithm-requires : goal.put_item-algorithm-requires
unfolding slot_line
put_item-algorithm-requires c =
    let whole = line-room c.args.buffer.now _ _ c.args.f c.requires (search rules) in
    next-room _ whole (left-next left-all c.put_item-version.ensures)

pub put_item-usage-requires : goal.put_item-usage-requires
unfolding slot_line
put_item-usage-requires c =
    let whole = line-room c.args.buffer.now _ _ c.args.f c.requires (search rules) in
    room_as (sym (ap (item " alg=") c.name.ensures))
    (next-room _ whole (left-next (left-next left-all c.put_item-version.ensures) c.put_item-algorithm.ensures))

pub put_item-side-requires : goal.put_item-side-requires
unfolding slot_line
put_item-side-requires c =
    let whole = line-room c.args.buffer.now _ _ c.args.f c.requires (search rules) in
    let p3 = put_as (ap (item " alg=") c.name.ensures) c.put_item-usage.ensures in
    room_as (sym (ap (item " use=") c.use_word.ensures))
    (next-room _ whole (left-next (left-next (left-next left-all c.put_item-version.ensures) c.put_item-algorithm.ensures) p3))

pub put_codes-requires : goal.put_codes-requires
unfolding slot_line
put_codes-requires c =
    let whole = line-room c.args.buffer.now _ _ c.args.f c.requires (search rules) in
    let p3 = put_as (ap (item " alg=") c.name.ensures) c.put_item-usage.ensures in
    let p4 = put_as (ap (item " use=") c.use_word.ensures) c.put_item-side.ensures in
    left-room whole (left-next (left-next (left-next (left-next left-all c.put_item-version.ensures) c.put_item-algorithm.ensures) p3) p4)

pub returns : goal.returns
unfolding slot_line
returns c =
    let short : length (slot_line c.args.number c.args.f) ≤ longest_line =
    let pre = c.requires in line-short _ c.args.f pre.1 (search rules) pre.2
    in
    let p3 = put_as (ap (item " alg=") c.name.ensures) c.put_item-usage.ensures in
    let p4 = put_as (ap (item " use=") c.use_word.ensures) c.put_item-side.ensures in
    let put =
    left-last (left-next (left-next (left-next (left-next left-all c.put_item-version.ensures) c.put_item-algorithm.ensures) p3) p4) c.put_codes.ensures in
    (omega (arith, put.ends, short), put)

pub shape_of-buffer : goal.shape_of-buffer
shape_of-buffer c = put-length (returns c).1
