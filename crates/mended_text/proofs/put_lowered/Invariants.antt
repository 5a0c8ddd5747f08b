-- `mended_text::put_lowered`: what is to be left stays the same with each byte. Assumes nothing.
use mathlib.Core.Path.{◌≡◌}
use Prim.Native.Nat.{◌+◌}
use lib.ListN.{length, drop}
use lib.Seq.{sets}
use Rattle.mended_text.specs.Text.{lowered}
use Rattle.mended_text.proofs.put_lowered.Given as goal

abbrev pub invariant-loop-i : goal.invariant-loop-i
invariant-loop-i l =
    (length l.buffer ≡ length l.initial.buffer) × (sets l.initial.buffer l.at (lowered l.bytes) ≡ sets l.buffer (l.at + l.i) (drop l.i (lowered l.bytes)))
