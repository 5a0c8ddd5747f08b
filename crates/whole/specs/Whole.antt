-- A whole PDU in one call (document 02, [1]): direction, slot number, IV, a buffer that holds the PDU from bit 0 on, and the plan's inputs but for
-- the flag, which stands in the PDU. Every piece of the plan is ciphered, or no bit changes. The order of the refusals stands once, over what the
-- call sees of its table. Assumes nothing: these are definitions.
use Rattle.std.specs.Prelude.{Bool, not, ◌&&◌, List, ◌≡◌, ℕ, ◌*◌, ◌≤◌, eqb, ltb, leb, length}
use Rattle.laws.specs.Choice.{pick}
use Rattle.laws.specs.Bits.{bit_at}
use Rattle.refusals.specs.Numbers.{done, buffer_large, span_outside, refuse}
use Rattle.slots.specs.declared.Slot.{Slot}
use Rattle.slots.specs.Slots.{has_bad, slot_at}
use Rattle.plan.specs.declared.Piece.{Piece}
use Rattle.plan.specs.declared.Plan.{Plan}
use Rattle.plan.specs.Plan.{plan_refusal, refused_plan, plan_of}
use Rattle.span.specs.Span.{longest_buffer}
use Rattle.keystream.specs.declared.Run.{Run}
use Rattle.keystream.specs.Work.{through_run, blocks_over, Fits, Later}
use Rattle.ciphering.specs.Span.{Ciphered, ciphered_as}
use Rattle.traffic.specs.Traffic.{use_refusal_of, slot_stream, after_judging}
use Rattle.whole.specs.declared.Pdu.{Pdu}

-- kind 2, DMAC-SYNC on SCH/H
abbrev pub sync_on_sch_h : ℕ
sync_on_sch_h = 2

-- the fragmentation flag: bit 12 of a PDU of kind 2, counted from 1; 0 for another kind, and for a PDU of under 12 bits
unfoldable pub flag_of : Pdu → List ℕ → ℕ
flag_of u buf = pick (eqb u.kind sync_on_sch_h && leb 12 u.length) (bit_at buf 11) 0

abbrev pub whole_plan : List ℕ → Pdu → Plan
whole_plan buf u = plan_of u.kind u.state (flag_of u buf) u.length u.address u.sdu

-- a buffer of `size` bytes, and a PDU of l bits in it: 5, 6
unfoldable pub room_refusal : ℕ → ℕ → ℕ
room_refusal size l = refuse (ltb longest_buffer size) buffer_large (refuse (ltb (8 * size) l) span_outside done)

-- before the plan: 16, 10, 7, 8, 12, 21, 3, 13, and then 5, 6
unfoldable pub open_refusal_of : Bool → Slot → ℕ → ℕ → List ℕ → ℕ → ℕ → ℕ
open_refusal_of bad slot direction number iv size l =
    refuse (not (eqb (use_refusal_of bad slot direction number iv) done)) (use_refusal_of bad slot direction number iv)
    (room_refusal size l)

-- the order: 16, 10, 7, 8, 12, 21, 3, 13, 5, 6, and then the plan's 18, 19
unfoldable pub whole_refusal_of : Bool → Slot → ℕ → ℕ → List ℕ → List ℕ → Pdu → ℕ
whole_refusal_of bad slot direction number iv buf u =
    refuse (not (eqb (open_refusal_of bad slot direction number iv (length buf) u.length) done))
    (open_refusal_of bad slot direction number iv (length buf) u.length)
    (plan_refusal u.kind u.state (flag_of u buf) u.length u.address u.sdu)

-- a piece of a plan, as a run of keystream
abbrev pub run_from : Piece → ℕ → Run
run_from p skip = record { start = p.start; n = p.length; skip = skip }

abbrev pub run_of : Piece → Run
run_of p = run_from p p.skip

abbrev pub has_no_piece : Plan → Bool
has_no_piece p = eqb p.first.length 0 && eqb p.second.length 0

-- the buffer with the pieces of a plan ciphered
abbrev pub ciphered : List ℕ → (ℕ → ℕ) → Plan → List ℕ
ciphered buf k p = through_run (through_run buf k (run_of p.first)) k (run_of p.second)

-- how many different blocks hold a bit that one of the pieces uses (document 02, [10])
abbrev pub plan_blocks : Plan → ℕ
plan_blocks p = blocks_over (run_of p.first) (run_of p.second)

-- all that a call with this refusal and these pieces answers: each piece is xored with its part of the keystream
abbrev pub pieces_after : ℕ → Plan → Slot → List ℕ → List ℕ → Ciphered
pieces_after refusal p slot iv buf = after_judging refusal (ciphered buf (slot_stream slot iv) p) buf (plan_blocks p)

-- the buffer afterwards; a refusal changes nothing
unfoldable pub wholed_of : Bool → Slot → ℕ → ℕ → List ℕ → List ℕ → Pdu → List ℕ
wholed_of bad slot direction number iv buf u = (pieces_after (whole_refusal_of bad slot direction number iv buf u) (whole_plan buf u) slot iv buf).buffer

-- the blocks reported
unfoldable pub whole_blocks_of : Bool → Slot → ℕ → ℕ → List ℕ → List ℕ → Pdu → ℕ
whole_blocks_of bad slot direction number iv buf u = (pieces_after (whole_refusal_of bad slot direction number iv buf u) (whole_plan buf u) slot iv buf).blocks

-- the plan as the call is judged: a call that is refused before its plan has no piece
unfoldable pub judged_plan : Bool → Slot → ℕ → ℕ → List ℕ → List ℕ → Pdu → Plan
judged_plan bad slot direction number iv buf u =
    pick (eqb (open_refusal_of bad slot direction number iv (length buf) u.length) done)
    (whole_plan buf u)
    (refused_plan (open_refusal_of bad slot direction number iv (length buf) u.length))

-- all that a call with this plan answers
abbrev pub whole_after : Plan → Slot → List ℕ → List ℕ → Ciphered
whole_after p slot iv buf = pieces_after p.refusal p slot iv buf

-- what the work needs of a plan that is not refused
abbrev pub WholeMay : Plan → List ℕ → List ℕ → Type 0
WholeMay p iv buf =
    p.refusal ≡ done
    → (length iv ≡ 10) × (length buf ≤ longest_buffer) × Fits buf (run_of p.first) × Fits buf (run_of p.second) × Later (run_of p.first) (run_of p.second)

-- all that the call answers
abbrev pub whole_answer_of : Bool → Slot → ℕ → ℕ → List ℕ → List ℕ → Pdu → Ciphered
whole_answer_of bad slot direction number iv buf u =
    ciphered_as (whole_refusal_of bad slot direction number iv buf u) (wholed_of bad slot direction number iv buf u) (whole_blocks_of bad slot direction number iv buf u)

-- the same of a table

abbrev pub whole_refusal : List Slot → ℕ → ℕ → List ℕ → List ℕ → Pdu → ℕ
whole_refusal table direction number iv buf u = whole_refusal_of (has_bad table) (slot_at table number) direction number iv buf u

abbrev pub wholed : List Slot → ℕ → ℕ → List ℕ → List ℕ → Pdu → List ℕ
wholed table direction number iv buf u = wholed_of (has_bad table) (slot_at table number) direction number iv buf u

abbrev pub whole_blocks : List Slot → ℕ → ℕ → List ℕ → List ℕ → Pdu → ℕ
whole_blocks table direction number iv buf u = whole_blocks_of (has_bad table) (slot_at table number) direction number iv buf u
