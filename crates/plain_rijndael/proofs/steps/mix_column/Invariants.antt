-- `plain_rijndael::steps::mix_column`: cell by cell. Assumes nothing.
use mathlib.Core.List.{List}
use Prim.Native.Nat.{ℕ, ◌+◌, ◌-◌, ◌%◌}
use Rattle.round_steps.specs.Steps.{mixed_byte}
use Rattle.laws.proofs.InRows.{InRow, InRows}
use Rattle.laws.specs.Lists.{cell}
use Rattle.plain_rijndael.proofs.steps.mix_column.Given as goal

abbrev pub mixed : List (List ℕ) → ℕ → ℕ → ℕ
mixed s r c = mixed_byte (cell s r c) (cell s ((r + 1) % 4) c) (cell s ((r + 2) % 4) c) (cell s ((r + 3) % 4) c)

abbrev pub invariant-loop-c : goal.invariant-loop-c
invariant-loop-c l = InRow (mixed l.s) l.t l.r l.c

abbrev pub decreases-loop-c : goal.decreases-loop-c
decreases-loop-c l = 8 - l.c

abbrev pub invariant-loop-r : goal.invariant-loop-r
invariant-loop-r l = InRows (mixed l.s) l.t l.r

abbrev pub decreases-loop-r : goal.decreases-loop-r
decreases-loop-r l = 4 - l.r
