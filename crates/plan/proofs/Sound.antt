-- The pieces of an accepted plan lie within the PDU, one behind the other, and each is one that traffic's tests 4 and 6 accept on a buffer
-- of as many bits; a refused plan has no piece. Assumes nothing.
use mathlib.Core.Bool.{Bool, false, ◌||◌}
use mathlib.Core.Path.{◌≡◌, refl, sym, ◌∙◌}
use Prim.Native.Nat.{ℕ, ◌+◌, ◌-◌, ◌<◌, ◌≤◌}
use native.Mathlib.Omega.{arith}
use lib.Dec.{eqb, ltb}
use borrow.Author.Tests.{ltb-true, ltb-false, eqb-true, eqb-false, eq-eqb, ne_eqb}
use Rattle.laws.proofs.Cases.{neither, pick-cases, pick-both, pick-else}
use Rattle.refusals.specs.Numbers.{done}
use Rattle.plan.specs.declared.Piece.{Piece}
use Rattle.plan.specs.declared.Plan.{Plan}
use Rattle.plan.specs.Plan.{sync_on_sch_s, longest_pdu, address_bits, no_piece, rest_from, address_from, by_case, clear_head, second_skip, keystream_bits, past_keystream, codes_unknown, parts_dont_fit, plan_refusal, refused_plan, planned_pieces, plan_of}

-- a piece of a buffer of l bits that traffic accepts: not empty, within the buffer, and within the keystream
pub record Taken (l : ℕ) (p : Piece) : Type 0 where
  pub some : 0 < p.length
  pub inside : p.start + p.length ≤ l
  pub streamed : p.skip + p.length ≤ 8288

-- q lies behind p: no bit is ciphered twice, and no keystream bit is used twice
pub record Behind (p q : Piece) : Type 0 where
  pub bits : p.start + p.length ≤ q.start
  pub stream : p.skip + p.length ≤ q.skip

-- no piece, one, or two
pub data Sound (l : ℕ) : Piece → Piece → Type 0 where
  none : Sound l no_piece no_piece
  one : {p : Piece} → Taken l p → Sound l p no_piece
  two : {p q : Piece} → Taken l p → Taken l q → Behind p q → Sound l p q

abbrev pub SoundPlan : ℕ → Plan → Type 0
SoundPlan l p = Sound l p.first p.second

-- one law for the document's cases, of two values that are given by them
by-case : {A B : Type 0} (R : A → B → Type 0) (kind state : ℕ) {x y z w : A} {x' y' z' w' : B} → R x x' → R y y' → R z z' → R w w'
    → R (by_case kind state x y z w) (by_case kind state x' y' z' w')
by-case R kind state p q r s =
    pick-both R (eqb kind sync_on_sch_s || eqb state 0) p (pick-both R (eqb state 1) q (pick-both R (eqb state 2) r s))

module _ (kind state flag l a s : ℕ) where
  -- what is not refused passed each test
  pub passed : plan_refusal kind state flag l a s ≡ done → (codes_unknown kind state flag l ≡ false) × (parts_dont_fit kind state flag l a s ≡ false)
  unfolding plan_refusal
  passed h =
      let codes = pick-else (codes_unknown kind state flag l) h (eqb-false 18 0 refl) in
      (codes.0, (pick-else (parts_dont_fit kind state flag l a s) codes.1 (eqb-false 19 0 refl)).0)

  -- so it is short enough for the keystream
  pub short : plan_refusal kind state flag l a s ≡ done → l ≤ longest_pdu
  short h = ltb-false longest_pdu l (neither (eqb kind 0 || ltb 3 kind || ltb 3 state || ltb 1 flag) (ltb longest_pdu l) (passed h).0).1

-- the rest of a PDU, as its one piece
rest-sound : (from l : ℕ) → l ≤ longest_pdu → Sound l (rest_from from l 0) no_piece
rest-sound from l h =
    pick-cases (λ p. Sound l p no_piece) (ltb from l)
    (λ e. let f : from < l = ltb-true from l e in one (record { some = omega arith; inside = omega arith; streamed = omega arith }))
    (λ e. none)

-- the address and the DM-SDU
address-taken : (l a s : ℕ) → l ≤ longest_pdu → a + address_bits ≤ s → s ≤ l → Taken l (address_from a)
address-taken l a s h p q = record { some = omega arith; inside = omega arith; streamed = omega arith }

both-sound : (l a s : ℕ) → l ≤ longest_pdu → a + address_bits ≤ s → s ≤ l → past_keystream l a s ≡ false → Sound l (address_from a) (rest_from s l (second_skip a s))
both-sound l a s h p q within =
    pick-cases (Sound l (address_from a)) (ltb s l)
    (λ e.
    let f : s < l = ltb-true s l e in
    let m = ltb-false keystream_bits (second_skip a s + (l - s)) (rw e at within) in
    two (address-taken l a s h p q) (record { some = omega arith; inside = omega arith; streamed = omega arith })
    (record { bits = p; stream = omega arith }))
    (λ e. one (address-taken l a s h p q))

module _ (kind state flag l a s : ℕ) where
  planned-sound : plan_refusal kind state flag l a s ≡ done
      → ((planned_pieces kind state flag l a s).refusal ≡ done) × SoundPlan l (planned_pieces kind state flag l a s)
  unfolding planned_pieces
  planned-sound h =
      let m : l ≤ longest_pdu = short kind state flag l a s h in
      by-case (λ (t : Bool) (p : Plan). t ≡ false → (p.refusal ≡ done) × SoundPlan l p) kind state
      (λ e. (refl, none))
      (λ e. (refl, rest-sound (clear_head kind flag) l m))
      (λ e. (refl, rest-sound s l m))
      (λ e.
      let f = neither (ltb s (a + address_bits) || ltb l s) (past_keystream l a s) e in
      let n = neither (ltb s (a + address_bits)) (ltb l s) f.0 in
      (refl, both-sound l a s m (ltb-false s (a + address_bits) n.0) (ltb-false l s n.1) f.1))
      (passed kind state flag l a s h).1

  -- the number that a plan gives is its refusal
  pub plan-number : (plan_of kind state flag l a s).refusal ≡ plan_refusal kind state flag l a s
  unfolding plan_of
  plan-number =
      pick-cases (λ (p : Plan). p.refusal ≡ plan_refusal kind state flag l a s) (eqb (plan_refusal kind state flag l a s) done)
      (λ t. let e = eqb-true (plan_refusal kind state flag l a s) done t in (planned-sound e).0 ∙ sym e)
      (λ t. refl)

  -- an accepted plan is sound
  pub plan-sound : (plan_of kind state flag l a s).refusal ≡ done → SoundPlan l (plan_of kind state flag l a s)
  unfolding plan_of
  plan-sound h =
      let e : plan_refusal kind state flag l a s ≡ done = sym plan-number ∙ h in
      rw (eq-eqb _ _ e) (planned-sound e).1

  -- a refused plan has no piece
  pub plan-refused : ((plan_of kind state flag l a s).refusal ≡ done → ⊥) → plan_of kind state flag l a s ≡ refused_plan (plan_refusal kind state flag l a s)
  unfolding plan_of
  plan-refused h = rw (ne_eqb _ _ (λ e. h (plan-number ∙ e)))
