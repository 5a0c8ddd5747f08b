-- `bytes::read_bytes`: the buffer is filled from the front. Assumes nothing.
use Rattle.std.proofs.Common.{◌*◌, ◌+◌, ◌/◌, length, get_or}
use Rattle.laws.specs.Lists.{Filled}
use Rattle.forms.specs.Hexes.{hex_value}
use Rattle.line_values.proofs.bytes.read_bytes.Given as goal

abbrev pub invariant-loop-i : goal.invariant-loop-i
invariant-loop-i l =
    Filled (λ k. hex_value (get_or l.s (2 * k) 0) * 16 + hex_value (get_or l.s (2 * k + 1) 0)) 0 (length l.s / 2) l.buf l.i
