-- `round_steps::add_key_of_round`: column by column, `Columns`. Assumes nothing.
use Prim.Native.Nat.{◌+◌, ◌-◌, ◌*◌}
use lib.Bits.{bit_xor}
use lib.ListN.{get_or}
use Rattle.laws.proofs.States.{Columns}
use Rattle.laws.specs.Lists.{cell}
use Rattle.words.specs.Words.{byte_of}
use Rattle.round_steps.proofs.add_key_of_round.Given as goal

abbrev pub invariant-loop-c : goal.invariant-loop-c
invariant-loop-c l = Columns (λ r k. bit_xor (cell l.s r k) (byte_of (get_or l.w (8 * l.n + k) 0) r)) l.t l.c

abbrev pub decreases-loop-c : goal.decreases-loop-c
decreases-loop-c l = 8 - l.c
