-- Which bits of a direct mode PDU are ciphered, and by which keystream bits: document 01, "Plan of a direct mode PDU"; document 002, clause 6.3.2.1.
-- l is the PDU's length L in bits, a is where its destination address starts and s where its DM-SDU starts, counted from 0.
-- Assumes nothing: these are definitions.
use Rattle.std.specs.Prelude.{Bool, false, ◌&&◌, ◌||◌, ℕ, ◌+◌, ◌-◌, ltb, eqb, Result, Ok, Err}
use Rattle.laws.specs.Choice.{pick}
use Rattle.refusals.specs.Numbers.{done, pdu_code_unknown, pdu_parts_dont_fit, refuse}
use Rattle.refusals.specs.Refused.{number}
use Rattle.refusals.specs.declared.Refusal.{Refusal}
use Rattle.plan.specs.declared.Piece.{Piece}
use Rattle.plan.specs.declared.Pieces.{Pieces}
use Rattle.plan.specs.declared.Plan.{Plan}

-- kinds 1 and 3; kind 2, DMAC-SYNC on SCH/H, is the one between
abbrev pub dmac_data : ℕ
dmac_data = 1

abbrev pub sync_on_sch_s : ℕ
sync_on_sch_s = 3

-- bits of the longest PDU
abbrev pub longest_pdu : ℕ
longest_pdu = 8288

-- bits of a destination address
abbrev pub address_bits : ℕ
address_bits = 24

-- a place without a piece holds zeros
abbrev pub no_piece : Piece
no_piece = record { start = 0; length = 0; skip = 0 }

-- the piece from a bit to the end of the PDU; a piece of length 0 is left out
abbrev pub rest_from : ℕ → ℕ → ℕ → Piece
rest_from from l skip = pick (ltb from l) (record { start = from; length = l - from; skip = skip }) no_piece

-- the piece of the destination address
abbrev pub address_from : ℕ → Piece
address_from a = record { start = a; length = address_bits; skip = 0 }

-- the cases: kind 3 (002, 6.3.2.1.1: "shall always be in clear") or state 0; state 1; state 2; state 3 (002, table 2)
abbrev pub by_case : {A : Type 0} → ℕ → ℕ → A → A → A → A → A
by_case kind state clear one two three =
    pick (eqb kind sync_on_sch_s || eqb state 0) clear
    (pick (eqb state 1) one
    (pick (eqb state 2) two
    three))

-- the head that stays clear in state 1: 10 bits for kind 1 (002, 6.3.2.1.2); for kind 2 12, and 18 if its fragmentation flag is 1 (6.3.2.1.1)
abbrev pub clear_head : ℕ → ℕ → ℕ
clear_head kind flag = pick (eqb kind dmac_data) 10 (pick (eqb flag 1) 18 12)

-- the skip of the second piece in state 3: 24 + n + 1, with n = s - a - 24 the bits between the address and the DM-SDU (document 02, [3]; 002,
-- 6.3.2.1.1 and 6.3.2.1.2: KSS(24, .., 24+n) is discarded, and the DM-SDU starts at KSS(24+n+1))
abbrev pub second_skip : ℕ → ℕ → ℕ
second_skip a s = address_bits + (s - a - address_bits) + 1

-- keystream bits that a call can reach, its skip included
abbrev pub keystream_bits : ℕ
keystream_bits = 8288

-- the second piece in state 3 is not left out, and its skip and length are above that (document 02, [3])
abbrev pub past_keystream : ℕ → ℕ → ℕ → Bool
past_keystream l a s = ltb s l && ltb keystream_bits (second_skip a s + (l - s))

-- 18: kind not 1..3, state not 0..3, flag not 0 or 1, or L above 8,288
abbrev pub codes_unknown : ℕ → ℕ → ℕ → ℕ → Bool
codes_unknown kind state flag l = eqb kind 0 || ltb 3 kind || ltb 3 state || ltb 1 flag || ltb longest_pdu l

-- 19: in state 1, L below the head; in state 2, s above L; in state 3, unless a + 24 <= s <= L, and then if the keystream is too short
abbrev pub parts_dont_fit : ℕ → ℕ → ℕ → ℕ → ℕ → ℕ → Bool
parts_dont_fit kind state flag l a s =
    by_case kind state
    false
    (ltb l (clear_head kind flag))
    (ltb l s)
    (ltb s (a + address_bits) || ltb l s || past_keystream l a s)

-- the order: 18, 19
unfoldable pub plan_refusal : ℕ → ℕ → ℕ → ℕ → ℕ → ℕ → ℕ
plan_refusal kind state flag l a s =
    refuse (codes_unknown kind state flag l) pdu_code_unknown
    (refuse (parts_dont_fit kind state flag l a s) pdu_parts_dont_fit
    done)

abbrev pub with_pieces : Piece → Piece → Plan
with_pieces first second = record { refusal = done; first = first; second = second }

abbrev pub refused_plan : ℕ → Plan
refused_plan number = record { refusal = number; first = no_piece; second = no_piece }

-- what was planned, as a plan: the pieces, or the refusal
abbrev pub plan_as : Result Pieces Refusal → Plan
plan_as (Ok pieces) = with_pieces pieces.first pieces.second
plan_as (Err refusal) = refused_plan (number refusal)

-- the pieces, case by case
unfoldable pub planned_pieces : ℕ → ℕ → ℕ → ℕ → ℕ → ℕ → Plan
planned_pieces kind state flag l a s =
    by_case kind state
    (with_pieces no_piece no_piece)
    (with_pieces (rest_from (clear_head kind flag) l 0) no_piece)
    (with_pieces (rest_from s l 0) no_piece)
    (with_pieces (address_from a) (rest_from s l (second_skip a s)))

-- the plan: the pieces, or the refusal with zeros for every other number
unfoldable pub plan_of : ℕ → ℕ → ℕ → ℕ → ℕ → ℕ → Plan
plan_of kind state flag l a s =
    pick (eqb (plan_refusal kind state flag l a s) done)
    (planned_pieces kind state flag l a s)
    (refused_plan (plan_refusal kind state flag l a s))
