-- `writing::put_bytes`: what is to be left stays the same with each byte. Assumes nothing.
use Rattle.std.proofs.Common.{◌≡◌, ◌+◌, drop}
use lib.Seq.{sets}
use Rattle.writing.proofs.put_bytes.Given as goal

abbrev pub invariant-loop-b : goal.invariant-loop-b
invariant-loop-b l =
    (l.end ≡ l.initial.end + l.b-index) × (sets l.initial.buffer l.initial.end l.bytes ≡ sets l.buffer (l.initial.end + l.b-index) (drop l.b-index l.bytes))
