-- `line_names::same_text`: what is to be answered stays the same with each byte. Assumes nothing.
use mathlib.Core.Path.{◌≡◌}
use Prim.Native.Nat.{◌-◌}
use lib.ListN.{length, drop}
use Rattle.line_names.specs.Names.{same_text}
use Rattle.line_names.proofs.same_text.Given as goal

abbrev pub invariant-loop-i : goal.invariant-loop-i
invariant-loop-i l = (length l.s ≡ length l.t) × (same_text l.s l.t ≡ same_text (drop l.i l.s) (drop l.i l.t))

abbrev pub decreases-loop-i : goal.decreases-loop-i
decreases-loop-i l = length l.s - l.i
