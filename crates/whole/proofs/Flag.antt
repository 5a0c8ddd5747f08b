-- The flag of a PDU after its pieces are ciphered: where the plan looks at it, it stays; so the plan of the result is the plan. Assumes nothing.
use mathlib.Core.Bool.{◌&&◌}
use mathlib.Core.Path.{◌≡◌, ap, ◌∙◌}
use mathlib.Core.Logic.{⊎_elim}
use mathlib.Core.List.{List}
use Prim.Native.Nat.{ℕ, ◌≤◌}
use native.Mathlib.Omega.{arith}
use lib.Dec.{eqb, ltb, leb}
use Rattle.laws.specs.Bits.{bit_at}
use Rattle.laws.proofs.Bits.{at_lt}
use Rattle.laws.proofs.Cases.{pick-cases, eq-or-ne}
use Rattle.span.proofs.Within.{Binary, Beside}
use Rattle.span.proofs.Laws.{xored-outside}
use Rattle.plan.specs.declared.Piece.{Piece}
use Rattle.plan.specs.declared.Plan.{Plan}
use Rattle.plan.specs.Plan.{clear_head, rest_from, plan_refusal, planned_pieces, plan_of}
use Rattle.plan.proofs.Flag.{flag-free}
use Rattle.keystream.specs.Work.{through_run}
use Rattle.whole.specs.declared.Pdu.{Pdu}
use Rattle.whole.specs.Whole.{sync_on_sch_h, flag_of, whole_plan, run_of, ciphered}

-- the flag is a bit
flag-bit : (u : Pdu) (buf : List ℕ) → flag_of u buf ≤ 1
unfolding flag_of
flag-bit u buf =
    let h : bit_at buf 11 ≤ 1 = let lt = at_lt buf 11 in omega (arith, lt) in
    let z : 0 ≤ 1 = omega arith in
    pick-cases (λ (x : ℕ). x ≤ 1) (eqb u.kind sync_on_sch_h && leb 12 u.length) (λ e. h) (λ e. z)

flag_same : (u : Pdu) (x y : List ℕ) → bit_at x 11 ≡ bit_at y 11 → flag_of u x ≡ flag_of u y
unfolding flag_of
flag_same u x y e = rw e

-- bit 11 is beside both pieces of a plan
abbrev Clear : Plan → Type 0
Clear p = Beside p.first.start p.first.length 11 × Beside p.second.start p.second.length 11

none-clear : Beside 0 0 11
none-clear h = omega arith

rest-clear : (from l : ℕ) → 12 ≤ from → Beside (rest_from from l 0).start (rest_from from l 0).length 11
rest-clear from l h = pick-cases (λ (p : Piece). Beside p.start p.length 11) (ltb from l) (λ e u. absurd (omega arith)) (λ e. none-clear)

-- in state 1 of kind 2 the flag stays clear
head_clear : (kind state f l a s : ℕ) → kind ≡ 2 → state ≡ 1 → Clear (plan_of kind state f l a s)
unfolding plan_of planned_pieces
head_clear kind state f l a s ek es =
    rw (ek, es)
    (pick-cases Clear (eqb (plan_refusal 2 1 f l a s) 0)
    (λ e. (rest-clear (clear_head 2 f) l (pick-cases (λ (x : ℕ). 12 ≤ x) (eqb f 1) (λ t. omega arith) (λ t. omega arith)), none-clear))
    (λ e. (none-clear, none-clear)))

module _ (k : ℕ → ℕ) (binary : Binary k) (buf : List ℕ) where
  -- no bit beside the pieces changes
  pub ciphered-outside : (p : Plan) (j : ℕ) → Beside p.first.start p.first.length j → Beside p.second.start p.second.length j
      → bit_at (ciphered buf k p) j ≡ bit_at buf j
  ciphered-outside p j h h₂ =
      xored-outside k binary (through_run buf k (run_of p.first)) p.second.start p.second.skip p.second.length j h₂
      ∙ xored-outside k binary buf p.first.start p.first.skip p.first.length j h

  module _ (u : Pdu) where
    -- where the plan looks at the flag, the flag's bit is what it was
    pub flag-kept : u.kind ≡ 2 → u.state ≡ 1 → bit_at (ciphered buf k (whole_plan buf u)) 11 ≡ bit_at buf 11
    flag-kept ek es =
        let clear = head_clear u.kind u.state (flag_of u buf) u.length u.address u.sdu ek es in
        ciphered-outside (whole_plan buf u) 11 clear.0 clear.1

    -- the plan of the result is the plan
    pub same-plan : whole_plan (ciphered buf k (whole_plan buf u)) u ≡ whole_plan buf u
    same-plan =
        ⊎_elim
        (λ ek.
        ⊎_elim
        (λ es. ap (λ (f : ℕ). plan_of u.kind u.state f u.length u.address u.sdu) (flag_same u result buf (flag-kept ek es)))
        (λ n. free (λ b. n b.1))
        (eq-or-ne u.state 1))
        (λ n. free (λ b. n b.0))
        (eq-or-ne u.kind 2)
      where
        result : List ℕ
        result = ciphered buf k (whole_plan buf u)

        free : ((u.kind ≡ 2) × (u.state ≡ 1) → ⊥) → whole_plan result u ≡ whole_plan buf u
        free n = flag-free u.kind u.state (flag_of u result) (flag_of u buf) u.length u.address u.sdu (flag-bit u result) (flag-bit u buf) n
