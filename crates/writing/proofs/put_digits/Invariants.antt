-- `writing::put_digits`: what is to be left stays the same with each digit. Assumes nothing.
use Rattle.std.proofs.Common.{◌≡◌, length, ◌+◌, ◌<◌}
use lib.Seq.{sets}
use Rattle.writing.specs.Text.{digits}
use Rattle.writing.proofs.put_digits.Given as goal

abbrev pub invariant-loop-i : goal.invariant-loop-i
invariant-loop-i l =
    (l.at < l.i) × (l.at + length (digits l.left) ≡ l.i) × (sets l.initial.buffer l.at (digits l.n) ≡ sets l.buffer l.at (digits l.left))
