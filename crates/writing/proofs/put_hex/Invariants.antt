-- `writing::put_hex`: byte after byte. Assumes nothing.
use lib.ListN.{take}
use Rattle.writing.specs.Text.{hex_text}
use Rattle.writing.specs.Writing.{Put}
use Rattle.writing.proofs.put_hex.Given as goal

abbrev pub invariant-loop-b : goal.invariant-loop-b
invariant-loop-b l = Put l.initial.buffer l.initial.end (hex_text (take l.b-index l.bytes)) l.buffer l.end
