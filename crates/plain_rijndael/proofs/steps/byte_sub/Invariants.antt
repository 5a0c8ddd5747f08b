-- `plain_rijndael::steps::byte_sub`: cell by cell. Assumes nothing.
use mathlib.Core.List.{List}
use Prim.Native.Nat.{ℕ, ◌-◌}
use Rattle.gf256.specs.Field.{s_box}
use Rattle.laws.proofs.InRows.{InRow, InRows}
use Rattle.laws.specs.Lists.{cell}
use Rattle.plain_rijndael.proofs.steps.byte_sub.Given as goal

abbrev pub subbed : List (List ℕ) → ℕ → ℕ → ℕ
subbed s r c = s_box (cell s r c)

abbrev pub invariant-loop-c : goal.invariant-loop-c
invariant-loop-c l = InRow (subbed l.s) l.t l.r l.c

abbrev pub decreases-loop-c : goal.decreases-loop-c
decreases-loop-c l = 8 - l.c

abbrev pub invariant-loop-r : goal.invariant-loop-r
invariant-loop-r l = InRows (subbed l.s) l.t l.r

abbrev pub decreases-loop-r : goal.decreases-loop-r
decreases-loop-r l = 4 - l.r
