-- `inverse::decrypt`: t is n rounds of what the loop began with. Assumes nothing.
use mathlib.Core.Path.{◌≡◌}
use Prim.Native.Nat.{◌-◌, ◌≤◌}
use Rattle.inverse.specs.Decipher.{inv_rounds}
use Rattle.inverse.proofs.decrypt.Given as goal

abbrev pub invariant-loop-n : goal.invariant-loop-n
invariant-loop-n l = (l.n ≤ 13) × (l.t ≡ inv_rounds l.w l.initial.t l.n)

abbrev pub decreases-loop-n : goal.decreases-loop-n
decreases-loop-n l = 13 - l.n
