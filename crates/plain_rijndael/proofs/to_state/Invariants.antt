-- `plain_rijndael::to_state`: cell by cell. Assumes nothing.
use mathlib.Core.List.{List}
use Prim.Native.Nat.{ℕ, ◌+◌, ◌-◌, ◌*◌}
use lib.ListN.{get_or}
use Rattle.laws.proofs.InRows.{InRow, InRows}
use Rattle.plain_rijndael.proofs.to_state.Given as goal

abbrev pub taken : List ℕ → ℕ → ℕ → ℕ
taken b r c = get_or b (4 * c + r) 0

abbrev pub invariant-loop-c : goal.invariant-loop-c
invariant-loop-c l = InRow (taken l.b) l.s l.r l.c

abbrev pub decreases-loop-c : goal.decreases-loop-c
decreases-loop-c l = 8 - l.c

abbrev pub invariant-loop-r : goal.invariant-loop-r
invariant-loop-r l = InRows (taken l.b) l.s l.r

abbrev pub decreases-loop-r : goal.decreases-loop-r
decreases-loop-r l = 4 - l.r
