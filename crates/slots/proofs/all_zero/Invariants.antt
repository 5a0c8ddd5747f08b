-- `slots::all_zero`: the bytes passed are all zero where their join is. Assumes nothing.
use mathlib.Core.Bool.{◌&&◌}
use mathlib.Core.Path.{◌≡◌}
use lib.Dec.{eqb}
use lib.ListN.{drop}
use Rattle.slots.specs.Slots.{all_zero}
use Rattle.slots.proofs.all_zero.Given as goal

abbrev pub invariant-loop-b : goal.invariant-loop-b
invariant-loop-b l = eqb l.joined 0 && all_zero (drop l.b-index l.fn.key) ≡ all_zero l.fn.key
