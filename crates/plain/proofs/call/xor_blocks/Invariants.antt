-- `plain::call::xor_blocks`: the bits before block r are xored. Assumes nothing.
use mathlib.Core.Path.{◌≡◌}
use Prim.Native.Nat.{◌-◌, ◌+◌, ◌*◌}
use Rattle.std.specs.Prelude.{min, max, length}
use Rattle.span.specs.Span.{stream_bit, xored}
use Rattle.tea.specs.Keystream.{block_of}
use Rattle.plain.proofs.call.xor_blocks.Given as goal

abbrev pub invariant-loop-r : goal.invariant-loop-r
invariant-loop-r l =
    (length l.buf ≡ length l.initial.buf)
    × (l.buf ≡ xored l.initial.buf (stream_bit (block_of l.mode)) 0 l.skip (min (l.skip + l.n) (max l.skip (256 * l.r)) - l.skip))
