-- A plan looks at the flag in state 1 of kind 2 alone. Assumes nothing.
use mathlib.Core.Bool.{true}
use mathlib.Core.Path.{◌≡◌, refl, sym, ◌∙◌}
use mathlib.Core.Logic.{⊎_elim}
use Prim.Native.Nat.{ℕ, zero, suc, ◌<◌, ◌≤◌}
use native.Mathlib.Omega.{arith}
use lib.Dec.{eqb}
use borrow.Author.Tests.{eq-eqb, ne_eqb, le-ltb, lt-ltb}
use Rattle.laws.specs.Choice.{pick}
use Rattle.laws.proofs.Cases.{eq-or-ne}
use Rattle.refusals.specs.Numbers.{done, pdu_code_unknown, pdu_parts_dont_fit, refuse}
use Rattle.plan.specs.Plan.{codes_unknown, parts_dont_fit, plan_refusal, refused_plan, planned_pieces, plan_of}

above : (k : ℕ) → (k ≡ 0 → ⊥) → (k ≡ 1 → ⊥) → (k ≡ 2 → ⊥) → (k ≡ 3 → ⊥) → 3 < k
above zero n0 n1 n2 n3 = absurd (n0 refl)
above (suc zero) n0 n1 n2 n3 = absurd (n1 refl)
above (suc (suc zero)) n0 n1 n2 n3 = absurd (n2 refl)
above (suc (suc (suc zero))) n0 n1 n2 n3 = absurd (n3 refl)
above (suc (suc (suc (suc k)))) n0 n1 n2 n3 = omega arith

module _ (kind state f g l a s : ℕ) (hf : f ≤ 1) (hg : g ≤ 1) where
  codes : codes_unknown kind state f l ≡ codes_unknown kind state g l
  codes = rw (le-ltb 1 f hf, le-ltb 1 g hg)

  -- the same tests and the same pieces
  alike : parts_dont_fit kind state f l a s ≡ parts_dont_fit kind state g l a s → planned_pieces kind state f l a s ≡ planned_pieces kind state g l a s
      → plan_of kind state f l a s ≡ plan_of kind state g l a s
  unfolding plan_of plan_refusal
  alike parts pieces i =
      let r = refuse (codes i) pdu_code_unknown (refuse (parts i) pdu_parts_dont_fit done) in
      pick (eqb r done) (pieces i) (refused_plan r)

  -- refused with 18, whatever the flag
  unknown : codes_unknown kind state f l ≡ true → plan_of kind state f l a s ≡ plan_of kind state g l a s
  unfolding plan_of plan_refusal
  unknown e = rw (e, sym codes ∙ e)

  other-state : (state ≡ 1 → ⊥) → plan_of kind state f l a s ≡ plan_of kind state g l a s
  unfolding planned_pieces
  other-state ne = alike (rw (ne_eqb state 1 ne)) (rw (ne_eqb state 1 ne))

  other-kind : (kind ≡ 2 → ⊥) → plan_of kind state f l a s ≡ plan_of kind state g l a s
  unfolding planned_pieces
  other-kind ne =
      ⊎_elim
      (λ e. unknown (rw (eq-eqb kind 0 e)))
      (λ n0.
      ⊎_elim
      (λ e. alike (rw (eq-eqb kind 1 e)) (rw (eq-eqb kind 1 e)))
      (λ n1.
      ⊎_elim
      (λ e. alike (rw (eq-eqb kind 3 e)) (rw (eq-eqb kind 3 e)))
      (λ n3. unknown (rw (ne_eqb kind 0 n0, lt-ltb 3 kind (above kind n0 n1 ne n3))))
      (eq-or-ne kind 3))
      (eq-or-ne kind 1))
      (eq-or-ne kind 0)

  -- two flags that are 0 or 1 give one plan, unless the kind is 2 and the state 1
  pub flag-free : ((kind ≡ 2) × (state ≡ 1) → ⊥) → plan_of kind state f l a s ≡ plan_of kind state g l a s
  flag-free free = ⊎_elim (λ e. ⊎_elim (λ h. absurd (free (e, h))) other-state (eq-or-ne state 1)) other-kind (eq-or-ne kind 2)
