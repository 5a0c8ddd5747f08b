-- `keystream::xor_runs`: one run and then the other, by the callees' contracts. Assumes nothing.
use mathlib.Core.Path.{◌≡◌}
use Prim.Native.Nat.{◌≤◌}
use lib.ListN.{length}
use Rattle.tea.specs.Mode.{mode_of}
use Rattle.keystream.specs.Stream.{keystream}
use Rattle.keystream.specs.Work.{Held}
use Rattle.keystream.proofs.Turns.{next_at, made_at, buf_at}
use Rattle.keystream.proofs.xor_runs.Given as goal

abbrev pub invariant-loop-run : goal.invariant-loop-run
invariant-loop-run l =
    (length l.buf ≡ length l.initial.buf)
    × (l.buf ≡ buf_at l.fn.p l.fn.q (keystream l.fn.algorithm l.fn.ck l.fn.iv) l.initial.buf l.run-index)
    × (l.made.schedules ≡ 1)
    × (l.made.next ≡ next_at l.fn.p l.fn.q l.run-index)
    × (l.made.blocks ≡ made_at l.fn.p l.fn.q l.run-index)
    × (l.made.blocks ≤ l.made.next)
    × Held (mode_of l.fn.algorithm l.fn.ck l.fn.iv) l.made.next l.kept
