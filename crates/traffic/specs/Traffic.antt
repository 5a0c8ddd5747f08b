-- Traffic (document 01, "Slots and rights"): direction, slot number, IV, buffer, start bit, length and skip. The order of its refusals stands
-- once, over what the call sees of its table: whether it is bad, and the slot of its number. What it answers then is said by the refusal, and by
-- the key where it is done. Assumes nothing: these are definitions.
use Rattle.std.specs.Prelude.{Bool, ◌&&◌, not, List, ◌≡◌, ℕ, eqb, length}
use Rattle.laws.specs.Choice.{pick}
use Rattle.laws.specs.Bits.{bit_at}
use Rattle.refusals.specs.Numbers.{done, code_unknown, direction_not_in_use, algorithm_out_of_service, iv_not10, iv_side_wrong, table_bad, refuse}
use Rattle.fields.specs.declared.Fields.{Fields}
use Rattle.fields.specs.Fields.{out_of_service}
use Rattle.slots.specs.declared.Slot.{Slot}
use Rattle.slots.specs.Slots.{has_bad, slot_at}
use Rattle.rights.specs.Rights.{is_direction, includes}
use Rattle.slot_calls.specs.Calls.{slot_refusal_of}
use Rattle.span.specs.Span.{xored}
use Rattle.block_counts.specs.Counts.{blocks_used}
use Rattle.keystream.specs.Stream.{keystream}
use Rattle.ciphering.specs.Span.{span_refusal, Ciphered, ciphered_as}

-- the house rule: a send needs IV bit `place` equal to side, a receive needs the other value
abbrev pub on_side : ℕ → Fields → List ℕ → Bool
on_side direction f iv = pick (eqb direction 1) (eqb (bit_at iv f.place) f.side) (not (eqb (bit_at iv f.place) f.side))

-- a send with an algorithm that is out of service (document 02, [9]); a receive with it is none
abbrev pub sends_out_of_service : ℕ → Fields → Bool
sends_out_of_service direction f = eqb direction 1 && out_of_service f.algorithm

-- whether a slot's key may be used so: 16, 10, 7, 8, 12, 21, 3, 13
unfoldable pub use_refusal_of : Bool → Slot → ℕ → ℕ → List ℕ → ℕ
use_refusal_of bad slot direction number iv =
    refuse bad table_bad
    (refuse (not (is_direction direction)) code_unknown
    (refuse (not (eqb (slot_refusal_of slot number) done)) (slot_refusal_of slot number)
    (refuse (not (includes slot.fields.usage direction)) direction_not_in_use
    (refuse (sends_out_of_service direction slot.fields) algorithm_out_of_service
    (refuse (not (eqb (length iv) 10)) iv_not10
    (refuse (not (on_side direction slot.fields iv)) iv_side_wrong
    done))))))

-- the order: 16, 10, 7, 8, 12, 21, 3, 13, and then 5, 4, 6
unfoldable pub traffic_refusal_of : Bool → Slot → ℕ → ℕ → List ℕ → List ℕ → ℕ → ℕ → ℕ → ℕ
traffic_refusal_of bad slot direction number iv buf start n skip =
    refuse (not (eqb (use_refusal_of bad slot direction number iv) done)) (use_refusal_of bad slot direction number iv)
    (span_refusal (length buf) start n skip)

-- the keystream of a slot's key and an initial value
abbrev pub slot_stream : Slot → List ℕ → ℕ → ℕ
slot_stream s iv = keystream s.fields.algorithm s.key iv

-- all that a call answers that was judged so, by the buffer that its work leaves and the blocks that it makes: a refusal changes nothing and
-- reports no block
abbrev pub after_judging : ℕ → List ℕ → List ℕ → ℕ → Ciphered
after_judging refusal worked buf blocks = ciphered_as refusal (pick (eqb refusal done) worked buf) (pick (eqb refusal done) blocks 0)

-- buffer bit start + i is itself xor keystream bit skip + i, for i below n
abbrev pub traffic_after : ℕ → Slot → List ℕ → List ℕ → ℕ → ℕ → ℕ → Ciphered
traffic_after refusal slot iv buf start n skip = after_judging refusal (xored buf (slot_stream slot iv) start skip n) buf (blocks_used skip n)

-- what the work needs of a call that is not refused
abbrev pub TrafficMay : ℕ → List ℕ → List ℕ → ℕ → ℕ → ℕ → Type 0
TrafficMay refusal iv buf start n skip = refusal ≡ done → (length iv ≡ 10) × (span_refusal (length buf) start n skip ≡ done)

-- the buffer afterwards
unfoldable pub trafficked_of : Bool → Slot → ℕ → ℕ → List ℕ → List ℕ → ℕ → ℕ → ℕ → List ℕ
trafficked_of bad slot direction number iv buf start n skip =
    (traffic_after (traffic_refusal_of bad slot direction number iv buf start n skip) slot iv buf start n skip).buffer

-- the blocks reported
unfoldable pub traffic_blocks_of : Bool → Slot → ℕ → ℕ → List ℕ → List ℕ → ℕ → ℕ → ℕ → ℕ
traffic_blocks_of bad slot direction number iv buf start n skip =
    (traffic_after (traffic_refusal_of bad slot direction number iv buf start n skip) slot iv buf start n skip).blocks

-- all that the call answers
abbrev pub traffic_answer_of : Bool → Slot → ℕ → ℕ → List ℕ → List ℕ → ℕ → ℕ → ℕ → Ciphered
traffic_answer_of bad slot direction number iv buf start n skip =
    ciphered_as (traffic_refusal_of bad slot direction number iv buf start n skip) (trafficked_of bad slot direction number iv buf start n skip)
    (traffic_blocks_of bad slot direction number iv buf start n skip)

-- the same of a table

abbrev pub use_refusal : List Slot → ℕ → ℕ → List ℕ → ℕ
use_refusal table direction number iv = use_refusal_of (has_bad table) (slot_at table number) direction number iv

abbrev pub traffic_refusal : List Slot → ℕ → ℕ → List ℕ → List ℕ → ℕ → ℕ → ℕ → ℕ
traffic_refusal table direction number iv buf start n skip = traffic_refusal_of (has_bad table) (slot_at table number) direction number iv buf start n skip

abbrev pub trafficked : List Slot → ℕ → ℕ → List ℕ → List ℕ → ℕ → ℕ → ℕ → List ℕ
trafficked table direction number iv buf start n skip = trafficked_of (has_bad table) (slot_at table number) direction number iv buf start n skip

abbrev pub traffic_blocks : List Slot → ℕ → ℕ → List ℕ → List ℕ → ℕ → ℕ → ℕ → ℕ
traffic_blocks table direction number iv buf start n skip = traffic_blocks_of (has_bad table) (slot_at table number) direction number iv buf start n skip
