-- Every plan beside the plan by document 01's reading of state 3, which request [3] of document 02 withdrew. The five theorems at the end
-- leave no input out. Assumes nothing.
use mathlib.Core.Bool.{Bool, true, false, ◌||◌}
use mathlib.Core.Logic.{◌⊎◌, inl, inr, ⊎_elim}
use mathlib.Core.Path.{◌≡◌, refl, sym, ap, ◌∙◌}
use Prim.Native.Nat.{ℕ, zero, suc, ◌+◌, ◌-◌, ◌<◌, ◌≤◌}
use native.Mathlib.Omega.{arith}
use lib.Dec.{eqb, ltb}
use borrow.Author.Tests.{ltb-true, ltb-false, lt-ltb, le-ltb, eqb-false, ne_eqb}
use Rattle.laws.specs.Choice.{pick}
use Rattle.laws.proofs.Cases.{lt-or-le, eq-or-ne, neither, and_left, and_right}
use Rattle.refusals.specs.Numbers.{done, pdu_code_unknown, pdu_parts_dont_fit, refuse}
use Rattle.plan.specs.declared.Piece.{Piece}
use Rattle.plan.specs.declared.Plan.{Plan}
use Rattle.plan.specs.Plan.{sync_on_sch_s, longest_pdu, address_bits, no_piece, rest_from, address_from, by_case, clear_head, second_skip, keystream_bits, past_keystream, codes_unknown, parts_dont_fit, plan_refusal, with_pieces, refused_plan, planned_pieces, plan_of}

-- the old reading: n keystream bits are passed over, and the keystream's end is not looked at
abbrev pub old_skip : ℕ → ℕ → ℕ
old_skip a s = address_bits + (s - a - address_bits)

abbrev pub old_dont_fit : ℕ → ℕ → ℕ → ℕ → ℕ → ℕ → Bool
old_dont_fit kind state flag l a s =
    by_case kind state
    false
    (ltb l (clear_head kind flag))
    (ltb l s)
    (ltb s (a + address_bits) || ltb l s)

abbrev pub old_pieces : ℕ → ℕ → ℕ → ℕ → ℕ → ℕ → Plan
old_pieces kind state flag l a s =
    by_case kind state
    (with_pieces no_piece no_piece)
    (with_pieces (rest_from (clear_head kind flag) l 0) no_piece)
    (with_pieces (rest_from s l 0) no_piece)
    (with_pieces (address_from a) (rest_from s l (old_skip a s)))

-- an answer by the tests of 18 and 19 and by the pieces, as `plan_of` gives it
unfoldable pub answer : Bool → Bool → Plan → Plan
answer codes parts pieces =
    let number = refuse codes pdu_code_unknown (refuse parts pdu_parts_dont_fit done) in
    pick (eqb number done) pieces (refused_plan number)

abbrev pub old_plan : ℕ → ℕ → ℕ → ℕ → ℕ → ℕ → Plan
old_plan kind state flag l a s =
    answer (codes_unknown kind state flag l) (old_dont_fit kind state flag l a s) (old_pieces kind state flag l a s)

-- the plans that are refused now and were not: the DM-SDU would reach keystream bit 8,288, which is past the last
pub record PastTheLast (kind state flag l a s : ℕ) : Type 0 where
  pub kinds : (kind ≡ 1) ⊎ (kind ≡ 2)
  pub state-3 : state ≡ 3
  pub flags : flag ≤ 1
  pub longest : l ≡ 8288
  pub first : a ≡ 0
  pub behind : 24 ≤ s
  pub some : s < 8288

-- one keystream bit more is passed over
pub one_later : (a s : ℕ) → second_skip a s ≡ old_skip a s + 1
one_later a s = omega arith

or-true : (t : Bool) → (t || true) ≡ true
or-true true = refl
or-true false = refl

-- the cases but state 3's: the value for state 3 does not matter
not_third : {A : Type 0} (kind state : ℕ) (x y z w w' : A) → (kind ≡ sync_on_sch_s) ⊎ (state ≤ 2)
    → by_case kind state x y z w ≡ by_case kind state x y z w'
not_third kind state x y z w w' (inl k) = rw k
not_third kind zero x y z w w' (inr h) = rw (or-true (eqb kind sync_on_sch_s))
not_third kind (suc zero) x y z w w' (inr h) = refl
not_third kind (suc (suc zero)) x y z w w' (inr h) = refl
not_third kind (suc (suc (suc state))) x y z w w' (inr h) = absurd (omega arith)

-- an answer that is not a refusal passed both tests
answered : (codes parts : Bool) (p q : Piece) → (answer codes parts (with_pieces p q)).refusal ≡ done → (codes ≡ false) × (parts ≡ false)
unfolding answer
answered true parts p q h = absurd (eqb-false 18 0 refl h)
answered false true p q h = absurd (eqb-false 19 0 refl h)
answered false false p q h = (refl, refl)

-- one more test changes no refusal
still : (codes parts more : Bool) (p q q' : Piece) → ((answer codes parts (with_pieces p q)).refusal ≡ done → ⊥)
    → answer codes (parts || more) (with_pieces p q') ≡ answer codes parts (with_pieces p q)
unfolding answer
still true parts more p q q' h = refl
still false true more p q q' h = refl
still false false more p q q' h = absurd (h refl)

-- an unknown code is answered whatever the parts are
by_code : {codes : Bool} (t t' : Bool) (p p' : Plan) → codes ≡ true → answer codes t p ≡ answer codes t' p'
unfolding answer
by_code t t' p p' e = rw e

module _ (kind state flag l : ℕ) where
  unknown-state : 3 < state → codes_unknown kind state flag l ≡ true
  unknown-state h = rw (lt-ltb 3 state h, or-true (eqb kind 0 || ltb 3 kind))

  known : codes_unknown kind state flag l ≡ false → (kind ≡ 0 → ⊥) × (kind ≤ 3) × (state ≤ 3) × (flag ≤ 1) × (l ≤ longest_pdu)
  known e =
      let b = neither (eqb kind 0 || ltb 3 kind || ltb 3 state || ltb 1 flag) (ltb longest_pdu l) e in
      let c = neither (eqb kind 0 || ltb 3 kind || ltb 3 state) (ltb 1 flag) b.0 in
      let d = neither (eqb kind 0 || ltb 3 kind) (ltb 3 state) c.0 in
      let f = neither (eqb kind 0) (ltb 3 kind) d.0 in
      (eqb-false kind 0 f.0, ltb-false 3 kind f.1, ltb-false 3 state d.1, ltb-false 1 flag c.1, ltb-false longest_pdu l b.1)

module _ (kind state flag l a s : ℕ) where
  new_is : plan_of kind state flag l a s
      ≡ answer (codes_unknown kind state flag l) (parts_dont_fit kind state flag l a s) (planned_pieces kind state flag l a s)
  unfolding plan_of plan_refusal answer
  new_is = refl

  unread : (kind ≡ sync_on_sch_s) ⊎ (state ≤ 2) → plan_of kind state flag l a s ≡ old_plan kind state flag l a s
  unfolding planned_pieces
  unread h =
      new_is
      ∙ ap (λ t. answer (codes_unknown kind state flag l) t (planned_pieces kind state flag l a s)) (not_third kind state _ _ _ _ _ h)
      ∙ ap (answer (codes_unknown kind state flag l) (old_dont_fit kind state flag l a s)) (not_third kind state _ _ _ _ _ h)

-- state 3 on another kind
module _ (kind flag l a s : ℕ) (n : kind ≡ sync_on_sch_s → ⊥) where
  abbrev codes : Bool
  codes = codes_unknown kind 3 flag l

  abbrev parts : Bool
  parts = ltb s (a + address_bits) || ltb l s

  abbrev pieces : ℕ → Plan
  pieces skip = with_pieces (address_from a) (rest_from s l skip)

  old-third : old_plan kind 3 flag l a s ≡ answer codes parts (pieces (old_skip a s))
  old-third = rw (ne_eqb kind sync_on_sch_s n)

  new-third : plan_of kind 3 flag l a s ≡ answer codes (parts || past_keystream l a s) (pieces (second_skip a s))
  unfolding planned_pieces
  new-third = new_is kind 3 flag l a s ∙ rw (ne_eqb kind sync_on_sch_s n)

  fitted : (old_plan kind 3 flag l a s).refusal ≡ done → (codes ≡ false) × (parts ≡ false)
  fitted h = answered codes parts _ _ (rw old-third at h)

  refused-third : ((old_plan kind 3 flag l a s).refusal ≡ done → ⊥) → plan_of kind 3 flag l a s ≡ old_plan kind 3 flag l a s
  refused-third h = new-third ∙ still codes parts (past_keystream l a s) _ _ _ (rw old-third at h) ∙ sym old-third

  past : (old_plan kind 3 flag l a s).refusal ≡ done → past_keystream l a s ≡ true → PastTheLast kind 3 flag l a s
  past h e =
      let f = fitted h in
      let c = known kind 3 flag l f.0 in
      let p = neither (ltb s (a + address_bits)) (ltb l s) f.1 in
      let after : a + address_bits ≤ s = ltb-false s (a + address_bits) p.0 in
      let some : s < l = ltb-true s l (and_left (ltb s l) (ltb keystream_bits (second_skip a s + (l - s))) e) in
      let over = ltb-true keystream_bits (second_skip a s + (l - s)) (and_right (ltb s l) (ltb keystream_bits (second_skip a s + (l - s))) e) in
      record {
        kinds = ⊎_elim inl (λ m. inr (omega (arith, c.0, c.1, m, n))) (eq-or-ne kind 1);
        state-3 = refl;
        flags = c.3;
        longest = omega arith;
        first = omega arith;
        behind = omega arith;
        some = omega arith;
      }

  within : (old_plan kind 3 flag l a s).refusal ≡ done → past_keystream l a s ≡ false
      → (old_plan kind 3 flag l a s ≡ pieces (old_skip a s)) × (plan_of kind 3 flag l a s ≡ pieces (old_skip a s + 1))
  unfolding answer
  within h e = let f = fitted h in (old-third ∙ rw (f.0, f.1), new-third ∙ rw (f.0, f.1, e) (ap pieces (one_later a s)))

module _ (kind flag s : ℕ) (k : (kind ≡ 1) ⊎ (kind ≡ 2)) (f : flag ≤ 1) (behind : 24 ≤ s) (some : s < 8288) where
  past-refused : ((old_plan kind 3 flag 8288 0 s).refusal ≡ done) × (plan_of kind 3 flag 8288 0 s ≡ refused_plan pdu_parts_dont_fit)
  unfolding answer
  past-refused =
      let w : (1 ≤ kind) × (kind ≤ 2) = ⊎_elim (λ e. (omega arith, omega arith)) (λ e. (omega arith, omega arith)) k in
      let n : kind ≡ sync_on_sch_s → ⊥ = λ e. omega arith in
      let c : codes_unknown kind 3 flag 8288 ≡ false = rw (ne_eqb kind 0 (λ e. omega arith), le-ltb 3 kind (omega arith), le-ltb 1 flag f) in
      let p : ltb s (0 + address_bits) ≡ false = le-ltb s (0 + address_bits) behind in
      let q : ltb 8288 s ≡ false = le-ltb 8288 s (omega arith) in
      let m : ltb keystream_bits (second_skip 0 s + (8288 - s)) ≡ true = lt-ltb keystream_bits (second_skip 0 s + (8288 - s)) (omega arith) in
      (ap Plan.refusal (old-third kind flag 8288 0 s n) ∙ rw (c, p, q), new-third kind flag 8288 0 s n ∙ rw (c, p, q, lt-ltb s 8288 some, m))

-- by cases: what is as before, and state 3 on another kind than 3
by_state : (P : ℕ → Type 0) (kind state : ℕ) → ((kind ≡ sync_on_sch_s) ⊎ (state ≡ 3 → ⊥) → P state)
    → ((kind ≡ sync_on_sch_s → ⊥) → P 3) → P state
by_state P kind state p q =
    ⊎_elim
    (λ e. ⊎_elim (λ k. p (inl k)) (λ n. rw e (q n)) (eq-or-ne kind sync_on_sch_s))
    (λ n. p (inr n))
    (eq-or-ne state 3)

by-test : {P : Type 0} (t : Bool) → (t ≡ true → P) → (t ≡ false → P) → P
by-test true p q = p refl
by-test false p q = q refl

module _ (kind state flag l a s : ℕ) where
  -- states 0, 1 and 2 and kind 3 answer as before
  pub others-as-before : (kind ≡ sync_on_sch_s) ⊎ (state ≡ 3 → ⊥) → plan_of kind state flag l a s ≡ old_plan kind state flag l a s
  others-as-before (inl k) = unread kind state flag l a s (inl k)
  others-as-before (inr n) =
      ⊎_elim
      (λ h. unread kind state flag l a s (inr (omega arith)))
      (λ h. new_is kind state flag l a s ∙ by_code _ _ _ _ (unknown-state kind state flag l (omega (arith, n))))
      (lt-or-le state 3)

  -- a plan that was refused is refused by the same number
  pub refused-as-before : ((old_plan kind state flag l a s).refusal ≡ done → ⊥) → plan_of kind state flag l a s ≡ old_plan kind state flag l a s
  refused-as-before =
      by_state
      (λ t. ((old_plan kind t flag l a s).refusal ≡ done → ⊥) → plan_of kind t flag l a s ≡ old_plan kind t flag l a s)
      kind state
      (λ o h. others-as-before o)
      (refused-third kind flag l a s)

  -- one that was accepted and is refused now is past the last bit
  pub newly-refused : (old_plan kind state flag l a s).refusal ≡ done → ((plan_of kind state flag l a s).refusal ≡ done → ⊥)
      → PastTheLast kind state flag l a s
  newly-refused =
      by_state
      (λ t. (old_plan kind t flag l a s).refusal ≡ done → ((plan_of kind t flag l a s).refusal ≡ done → ⊥) → PastTheLast kind t flag l a s)
      kind state
      (λ o h r. absurd (r (ap Plan.refusal (others-as-before o) ∙ h)))
      (λ n h r. by-test (past_keystream l a s) (past kind flag l a s n h) (λ e. absurd (r (ap Plan.refusal (within kind flag l a s n h e).1))))

  -- and each of these was accepted, and is refused with 19
  pub past-is-refused : PastTheLast kind state flag l a s
      → ((old_plan kind state flag l a s).refusal ≡ done) × (plan_of kind state flag l a s ≡ refused_plan pdu_parts_dont_fit)
  past-is-refused p =
      rw (p.state-3, p.longest, p.first) (past-refused kind flag s p.kinds p.flags p.behind p.some)

-- every other plan of state 3 that was accepted is accepted, and its second piece starts one keystream bit later
pub one-bit-more : (kind flag l a s : ℕ) → (kind ≡ sync_on_sch_s → ⊥)
    → (old_plan kind 3 flag l a s).refusal ≡ done → (PastTheLast kind 3 flag l a s → ⊥)
    → (old_plan kind 3 flag l a s ≡ with_pieces (address_from a) (rest_from s l (old_skip a s)))
    × (plan_of kind 3 flag l a s ≡ with_pieces (address_from a) (rest_from s l (old_skip a s + 1)))
one-bit-more kind flag l a s n h m =
    by-test (past_keystream l a s) (λ e. absurd (m (past kind flag l a s n h e))) (within kind flag l a s n h)
