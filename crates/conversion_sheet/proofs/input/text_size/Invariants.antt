-- `input::text_size`: no empty line stands among the bytes passed. Assumes nothing.
use Rattle.std.proofs.Common.{◌≡◌, ◌+◌, true, drop}
use Rattle.conversion_sheet.specs.Input.{before_empty}
use Rattle.conversion_sheet.proofs.input.text_size.Given as goal

abbrev pub invariant-loop-i : goal.invariant-loop-i
invariant-loop-i l = before_empty true l.s ≡ l.i + before_empty l.starts (drop l.i l.s)
