-- What a caller wants to know of the call for a whole PDU: the same call again brings the PDU back, it is what the traffic calls of its pieces
-- do, no bit beside its pieces changes, the blocks reported are those that hold a used bit, never above 33. By what the call sees of its list of
-- slots: so of tables by value and of lent ones. Assumes nothing.
use mathlib.Core.Bool.{Bool, false}
use mathlib.Core.Path.{◌≡◌, refl, sym, ap, subst, ◌∙◌}
use mathlib.Core.Logic.{◌⊎◌, inl, inr, ⊎_elim}
use mathlib.Core.List.{List}
use Prim.Native.Nat.{ℕ, ◌≤◌}
use native.Mathlib.Omega.{arith}
use borrow.Author.Tests.{eq-eqb, ne_eqb, le-ltb, eqb-false}
use lib.ListN.{length}
use Rattle.laws.specs.Bits.{bit_at}
use Rattle.slots.specs.declared.Slot.{Slot}
use Rattle.span.specs.Span.{longest_buffer}
use Rattle.span.proofs.Within.{Binary, Beside}
use Rattle.span.proofs.Laws.{Bytes, length-xored, xored-none, xored-bytes, xored-swap, xored-twice}
use Rattle.span.proofs.Stream.{stream-lt}
use Rattle.block_counts.proofs.Blocks.{UsedBlock, Enumerates, both-bound, both-counted}
use Rattle.plan.specs.declared.Piece.{Piece}
use Rattle.plan.specs.declared.Plan.{Plan}
use Rattle.plan.specs.Plan.{no_piece}
use Rattle.plan.proofs.Sound.{Taken, Sound, none, one, two, SoundPlan, plan-number, plan-sound}
use Rattle.keystream.specs.Work.{through_run}
use Rattle.ciphering.specs.Span.{span_refusal}
use Rattle.traffic.specs.Traffic.{use_refusal_of, slot_stream, traffic_refusal_of, trafficked_of}
use Rattle.traffic.proofs.Passed.{use-passed-of}
use Rattle.traffic.proofs.Laws.{span-accepted}
use Rattle.whole.specs.declared.Pdu.{Pdu}
use Rattle.whole.specs.Whole.{flag_of, open_refusal_of, whole_plan, whole_refusal_of, run_of, ciphered, wholed_of, whole_blocks_of}
use Rattle.whole.proofs.Passed.{WholePassed, whole-passed}
use Rattle.whole.proofs.Pieces.{pieces-fit}
use Rattle.whole.proofs.Flag.{ciphered-outside, flag-kept, same-plan}
use Rattle.whole.proofs.Calls.{whole_open, whole-accepted, whole-blocks}

module _ (k : ℕ → ℕ) (binary : Binary k) (buf : List ℕ) (p : Plan) where
  pub length-ciphered : length (ciphered buf k p) ≡ length buf
  length-ciphered = length-xored (through_run buf k (run_of p.first)) k _ _ _ ∙ length-xored buf k _ _ _

  -- the same pieces twice give the buffer back
  ciphered-twice : Bytes buf → ciphered (ciphered buf k p) k p ≡ buf
  ciphered-twice small =
      let f = p.first in
      let s = p.second in
      let half = through_run buf k (run_of f) in
      ap (λ (l : List ℕ). through_run l k (run_of s)) (xored-swap half k k s.start s.skip s.length f.start f.skip f.length binary binary)
      ∙ ap (λ (l : List ℕ). through_run (through_run l k (run_of s)) k (run_of s)) (xored-twice k binary buf f.start f.skip f.length small)
      ∙ xored-twice k binary buf s.start s.skip s.length small

-- each place of a sound plan has a piece that traffic takes, or none
abbrev Placed : ℕ → Piece → Type 0
Placed l p = Taken l p ⊎ (p ≡ no_piece)

places : (l : ℕ) (p q : Piece) → Sound l p q → Placed l p × Placed l q
places l p q none = (inr refl, inr refl)
places l p q (one t) = (inl t, inr refl)
places l p q (two t u b) = (inl t, inl u)

-- and lies within the PDU
placed-short : (l : ℕ) (p : Piece) → Placed l p → (j : ℕ) → l ≤ j → Beside p.start p.length j
placed-short l p h j far =
    ⊎_elim
    (λ t. let inside = t.inside in λ low. omega (arith, inside))
    (λ z. subst (λ (q : Piece). Beside q.start q.length j) (sym z) (λ low. omega arith))
    h

module _ (bad : Bool) (slot : Slot) (direction number : ℕ) (iv : List ℕ) where
  -- a place without a piece is refused by traffic
  none-refused : (b : List ℕ) → use_refusal_of bad slot direction number iv ≡ 0 → length b ≤ longest_buffer → traffic_refusal_of bad slot direction number iv b 0 0 0 ≡ 4
  unfolding traffic_refusal_of span_refusal
  none-refused b e small = rw (eq-eqb _ 0 e, le-ltb longest_buffer (length b) small)

  module _ (buf : List ℕ) (u : Pdu) (accepted : whole_refusal_of bad slot direction number iv buf u ≡ 0) where
    stream : ℕ → ℕ
    stream = slot_stream slot iv

    plan : Plan
    plan = whole_plan buf u

    result : List ℕ
    result = ciphered buf stream plan

    binary : Binary stream
    unfolding stream
    binary = stream-lt _

    passes : WholePassed bad slot direction number iv buf u
    passes = whole-passed bad slot direction number iv buf u accepted

    sound : SoundPlan u.length plan
    unfolding plan
    sound =
        plan-sound u.kind u.state (flag_of u buf) u.length u.address u.sdu
        (plan-number u.kind u.state (flag_of u buf) u.length u.address u.sdu ∙ passes.planned)

    done-is : wholed_of bad slot direction number iv buf u ≡ result
    unfolding result plan stream
    done-is = whole-accepted bad slot direction number iv buf u accepted

    -- where the plan looks at the flag, the flag stays
    pub flag-stays : u.kind ≡ 2 → u.state ≡ 1 → bit_at (wholed_of bad slot direction number iv buf u) 11 ≡ bit_at buf 11
    unfolding result plan
    flag-stays ek es = ap (λ (b : List ℕ). bit_at b 11) done-is ∙ flag-kept stream binary buf u ek es

    -- the result is accepted again, in each good table that has the same slot
    again : whole_refusal_of false slot direction number iv result u ≡ 0
    unfolding result plan
    again =
        let good = (use-passed-of bad slot direction number iv passes.room.allowed).good in
        let size = length-ciphered stream binary buf plan in
        whole_open false slot direction number iv result u
        ((λ i. open_refusal_of (sym good i) slot direction number iv (size i) u.length) ∙ passes.opened)
        ∙ sym (plan-number u.kind u.state (flag_of u result) u.length u.address u.sdu)
        ∙ ap (λ (p : Plan). p.refusal) (same-plan stream binary buf u)
        ∙ plan-number u.kind u.state (flag_of u buf) u.length u.address u.sdu
        ∙ passes.planned

    -- the same call on the result brings the PDU back, with any good table that has the same slot
    pub whole_twice : (bad' : Bool) (slot' : Slot) → bad' ≡ false → slot' ≡ slot → Bytes buf
        → (whole_refusal_of bad' slot' direction number iv (wholed_of bad slot direction number iv buf u) u ≡ 0)
        × (wholed_of bad' slot' direction number iv (wholed_of bad slot direction number iv buf u) u ≡ buf)
    unfolding result plan stream
    whole_twice bad' slot' good same small =
        rw (done-is, good, same) (
          again,
          whole-accepted false slot direction number iv result u again
              ∙ ap (ciphered result stream) (same-plan stream binary buf u)
              ∙ ciphered-twice stream binary buf plan small,
        )

    -- the pieces, as traffic ciphers them one by one

    through : List ℕ → Piece → List ℕ
    through b p = trafficked_of bad slot direction number iv b p.start p.length p.skip

    -- the traffic call of each piece is accepted, on each buffer of this size
    pub pieces-accepted : (b : List ℕ) → length b ≡ length buf → (p : Piece) → Taken u.length p
        → traffic_refusal_of bad slot direction number iv b p.start p.length p.skip ≡ 0
    pieces-accepted b e p h =
        let small = passes.room.small in
        let inside = passes.room.inside in
        let lies = h.inside in
        span-accepted bad slot direction number iv b p.start p.length p.skip passes.room.allowed (omega (arith, small, e)) (omega (arith, inside, lies, e)) h.streamed h.some

    through-piece : (b : List ℕ) (p : Piece) → length b ≡ length buf → Bytes b → Placed u.length p → through b p ≡ through_run b stream (run_of p)
    unfolding through stream trafficked_of
    through-piece b p e small h =
        let limit : length b ≤ longest_buffer = let m = passes.room.small in omega (arith, m, e) in
        ⊎_elim
        (λ t. rw (eq-eqb _ 0 (pieces-accepted b e p t)))
        (λ z.
        rw z
        (rw (ne_eqb _ 0 (λ w. eqb-false 4 0 refl (sym (none-refused b passes.room.allowed limit) ∙ w))) (sym (xored-none b stream 0 0 small))))
        h

    -- the call is the traffic calls of its pieces, one after the other (traffic refuses a place without a piece, and keeps the buffer)
    pub whole-is-traffic : Bytes buf → wholed_of bad slot direction number iv buf u
        ≡ trafficked_of bad slot direction number iv
        (trafficked_of bad slot direction number iv buf (whole_plan buf u).first.start (whole_plan buf u).first.length (whole_plan buf u).first.skip)
        (whole_plan buf u).second.start
        (whole_plan buf u).second.length
        (whole_plan buf u).second.skip
    unfolding plan through stream result
    whole-is-traffic small =
        let both = places u.length plan.first plan.second sound in
        let half = through_run buf stream (run_of plan.first) in
        done-is
        ∙ sym
        (ap (λ (b : List ℕ). through b plan.second) (through-piece buf plan.first refl small both.0)
        ∙ through-piece half plan.second (length-xored buf stream _ _ _) (xored-bytes stream binary buf _ _ _) both.1)

    -- no bit beside the pieces changes, and none from the PDU's length on

    pub whole-outside : (j : ℕ) → Beside (whole_plan buf u).first.start (whole_plan buf u).first.length j
        → Beside (whole_plan buf u).second.start (whole_plan buf u).second.length j → bit_at (wholed_of bad slot direction number iv buf u) j ≡ bit_at buf j
    unfolding result plan
    whole-outside j h h₂ = ap (λ (b : List ℕ). bit_at b j) done-is ∙ ciphered-outside stream binary buf plan j h h₂

    pub whole-beyond : (j : ℕ) → u.length ≤ j → bit_at (wholed_of bad slot direction number iv buf u) j ≡ bit_at buf j
    unfolding plan
    whole-beyond j far =
        let both = places u.length plan.first plan.second sound in
        whole-outside j (placed-short u.length plan.first both.0 j far) (placed-short u.length plan.second both.1 j far)

    -- the blocks reported are those that hold a bit that a piece uses, each counted once, and never above 33

    pub whole-counted : (r : List ℕ) × (length r ≡ whole_blocks_of bad slot direction number iv buf u)
        × Enumerates (λ j. UsedBlock (whole_plan buf u).first.skip (whole_plan buf u).first.length j ⊎ UsedBlock (whole_plan buf u).second.skip (whole_plan buf u).second.length j) r
    unfolding plan
    whole-counted =
        let fit = pieces-fit buf u.length plan.first plan.second passes.room.inside sound in
        let found = both-counted plan.first.skip plan.first.length plan.second.skip plan.second.length fit.2 in
        (found.0, found.1 ∙ sym (whole-blocks bad slot direction number iv buf u accepted), found.2)

    pub whole-bound : whole_blocks_of bad slot direction number iv buf u ≤ 33
    unfolding plan
    whole-bound =
        let fit = pieces-fit buf u.length plan.first plan.second passes.room.inside sound in
        rw (whole-blocks bad slot direction number iv buf u accepted)
        (both-bound plan.first.skip plan.first.length plan.second.skip plan.second.length fit.2 fit.0.streamed fit.1.streamed)
