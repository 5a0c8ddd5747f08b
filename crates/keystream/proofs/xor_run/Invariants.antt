-- `keystream::xor_run`: `done` bits are xored, and each turn adds a piece of one block. Assumes nothing.
use mathlib.Core.Path.{◌≡◌}
use Prim.Native.Nat.{◌≤◌, ◌-◌, ◌+◌, ◌/◌, max}
use lib.ListN.{length}
use Rattle.span.specs.Span.{stream_bit, xored}
use Rattle.block_counts.specs.Counts.{block_after}
use Rattle.tea.specs.Keystream.{block_of}
use Rattle.keystream.specs.Work.{Held}
use Rattle.keystream.proofs.xor_run.Given as goal

abbrev pub invariant-loop-done : goal.invariant-loop-done
invariant-loop-done l =
    (l.done ≤ l.n) × (length l.buf ≡ length l.initial.buf) × (l.buf ≡ xored l.initial.buf (stream_bit (block_of l.engine.mode.now)) l.start l.skip l.done)
    × (l.made.schedules ≡ l.initial.made.schedules)
    × (l.made.next ≡ block_after l.initial.made.next l.skip l.done)
    × (l.made.blocks ≡ l.initial.made.blocks + (l.made.next - max l.initial.made.next (l.skip / 256)))
    × (l.made.blocks ≤ l.made.next)
    × Held l.engine.mode.now l.made.next l.kept

abbrev pub decreases-loop-done : goal.decreases-loop-done
decreases-loop-done l = l.n - l.done
