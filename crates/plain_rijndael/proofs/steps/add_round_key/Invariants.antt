-- `plain_rijndael::steps::add_round_key`: cell by cell; a byte of a word is the byte that is held. Assumes nothing.
use mathlib.Core.List.{List}
use Prim.Native.Nat.{ℕ, ◌+◌, ◌-◌, ◌*◌}
use lib.Bits.{bit_xor}
use lib.ListN.{get_or}
use Rattle.words.specs.Words.{byte_of}
use Rattle.laws.proofs.InRows.{InRow, InRows}
use Rattle.laws.specs.Lists.{cell}
use Rattle.plain_schedule.specs.Bytes.{words_of}
use Rattle.plain_rijndael.proofs.steps.add_round_key.Given as goal

abbrev pub keyed : ℕ → List (List ℕ) → List (List ℕ) → ℕ → ℕ → ℕ
keyed n s w r c = bit_xor (cell s r c) (byte_of (get_or (words_of w) (8 * n + c) 0) r)

abbrev pub invariant-loop-c : goal.invariant-loop-c
invariant-loop-c l = InRow (keyed l.n l.s l.w) l.t l.r l.c

abbrev pub decreases-loop-c : goal.decreases-loop-c
decreases-loop-c l = 8 - l.c

abbrev pub invariant-loop-r : goal.invariant-loop-r
invariant-loop-r l = InRows (keyed l.n l.s l.w) l.t l.r

abbrev pub decreases-loop-r : goal.decreases-loop-r
decreases-loop-r l = 4 - l.r
