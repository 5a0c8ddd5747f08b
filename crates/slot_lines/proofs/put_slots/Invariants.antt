-- `slot_lines::put_slots`: with each slot its text is no longer left. Assumes nothing.
use Prim.Native.Nat.{◌≤◌, ◌+◌, ◌*◌}
use lib.ListN.{drop}
use Rattle.slot_lines.specs.Lines.{slot_lines, longest_line}
use Rattle.writing.proofs.Left.{Left}
use Rattle.slot_lines.proofs.put_slots.Given as goal

abbrev pub invariant-loop-i : goal.invariant-loop-i
invariant-loop-i l =
    (l.end ≤ l.at + l.i * longest_line) × Left l.initial.buffer l.at (slot_lines 1 l.fn.table) l.buffer l.end (slot_lines (l.i + 1) (drop l.i l.fn.table))
