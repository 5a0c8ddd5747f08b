-- `slot_lines::put_slots`: with each slot its text is no longer left. Assumes nothing.
use native.Mathlib.Omega.{arith}
use borrow.Author.Rules.{rules}
use Rattle.writing.proofs.Puts.{put-length}
use Rattle.writing.proofs.Left.{left-all, left_as, left-next, left-none}
use Rattle.slot_lines.proofs.Lines.{lines_next, lines_none}
use Rattle.slot_lines.proofs.put_slots.Goals as goal

pub loop-i-init : goal.loop-i-init
loop-i-init c = (omega arith, left-all)

pub put_slot-end-requires : goal.put_slot-end-requires
put_slot-end-requires c =
    let size = c.loop-i.invariant.1.size in
    (omega arith, omega arith)

pub loop-i-preserved : goal.loop-i-preserved
loop-i-preserved c =
    let put = c.put_slot-end.ensures in
    (omega (arith, put.0), left-next (left_as (lines_next c.args.table c.loop-i.i (search rules)) c.loop-i.invariant.1) put.1)

pub returns : goal.returns
returns c =
    (omega arith, left-none (left_as (lines_none c.args.table c.loop-i.i (search rules)) c.loop-i.invariant.1))

pub shape_of-buffer : goal.shape_of-buffer
shape_of-buffer c = put-length (returns c).1
