-- `plain_rijndael::steps::shift_row`: cell by cell. Assumes nothing.
use mathlib.Core.List.{List}
use Prim.Native.Nat.{ℕ, ◌+◌, ◌-◌, ◌%◌}
use Rattle.round_steps.specs.Steps.{shift_of}
use Rattle.laws.proofs.InRows.{InRow, InRows}
use Rattle.laws.specs.Lists.{cell}
use Rattle.plain_rijndael.proofs.steps.shift_row.Given as goal

abbrev pub turned : List (List ℕ) → ℕ → ℕ → ℕ
turned s r c = cell s r ((c + shift_of r) % 8)

abbrev pub decreases-loop-c : goal.decreases-loop-c
decreases-loop-c l = 8 - l.c

abbrev pub decreases-loop-r : goal.decreases-loop-r
decreases-loop-r l = 4 - l.r

abbrev pub invariant-loop-c : goal.invariant-loop-c
invariant-loop-c l = InRow (turned l.s) l.t l.r l.c

abbrev pub invariant-loop-r : goal.invariant-loop-r
invariant-loop-r l = InRows (turned l.s) l.t l.r
