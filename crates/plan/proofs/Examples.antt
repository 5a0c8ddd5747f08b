-- The examples of document 01 that its table of P values does not have. Assumes nothing.
use mathlib.Core.Path.{◌≡◌, refl}
use Prim.Native.Nat.{ℕ}
use Rattle.plan.specs.Plan.{no_piece, with_pieces, refused_plan, plan_refusal, planned_pieces, plan_of}

-- kind 1, state 1: a PDU of its head alone has no piece, whatever the inputs that state 1 doesn't use
pub head-alone : (a s : ℕ) → plan_of 1 1 0 10 a s ≡ with_pieces no_piece no_piece
unfolding plan_of plan_refusal planned_pieces
head-alone a s = refl

-- and a shorter one is refused
pub head-cut-short : (a s : ℕ) → plan_of 1 1 0 9 a s ≡ refused_plan 19
unfolding plan_of plan_refusal planned_pieces
head-cut-short a s = refl
