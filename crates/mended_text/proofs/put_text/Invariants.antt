-- `mended_text::put_text`: with each line it is no longer left. Assumes nothing.
use Prim.Native.Nat.{◌-◌}
use Rattle.writing.proofs.Left.{Left}
use Rattle.line_names.specs.Names.{name_count}
use Rattle.sheet_faults.specs.Sheet.{lines_of}
use Rattle.mended_text.specs.Text.{lines_mended, text_mended}
use Rattle.mended_text.proofs.put_text.Given as goal

abbrev pub invariant-loop-name : goal.invariant-loop-name
invariant-loop-name l =
    Left l.initial.buffer 0 (text_mended (lines_of l.text)) l.buffer l.at (lines_mended l.two (lines_of l.text) l.name-index (name_count - l.name-index))
