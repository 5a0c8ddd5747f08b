-- The worked examples of docs/DEMAND-3.md: two loads, a move, traffic, and what is seen of them whatever the two keys are; and the same of a key of
-- TEA6 that is there at the start. Assumes nothing.
use mathlib.Core.List.{List, [], ◌∷◌, map}
use mathlib.Core.Option.{some}
use mathlib.Core.Path.{◌≡◌, refl}
use Prim.Native.Nat.{ℕ}
use lib.ListN.{replicate}
use Rattle.laws.specs.Bits.{bit_of, bit_at}
use Rattle.fields.specs.declared.Asked.{Asked}
use Rattle.fields.specs.Fields.{stored_of}
use Rattle.slots.specs.declared.Slot.{Slot}
use Rattle.slots.specs.Slots.{all_zero, is_empty, is_filled, is_bad, has_bad, empty_table, with_slot}
use Rattle.slot_calls.specs.Calls.{load_refusal_of, move_refusal_of, slot_refusal_of, clear_refusal_of}
use Rattle.block_counts.specs.Counts.{blocks_used}
use Rattle.ciphering.specs.Span.{span_refusal}
use Rattle.traffic.specs.Traffic.{use_refusal_of, traffic_refusal_of, traffic_blocks_of}
use Rattle.two_runs.specs.Calls.{span, Call, load, move, clear, read, traffic, load_at, present}
use Rattle.two_runs.specs.Step.{Seen}
use Rattle.two_runs.specs.Card.{step}
use Rattle.demand_3.specs.Ours.{our_card}
use Rattle.two_runs.specs.Trace.{traced}
use Rattle.two_runs.specs.Run.{start_of, next, run, state_at, trace_at}

-- a key of TEA7 for sending only, with side 0 at place 28; and a key of TEA5 for both, with side 1 at place 0

abbrev send_only : Asked
send_only = record { version = 17; algorithm = 7; usage = 1; side = 0; place = 28; mcc = 262; mnc = 1001 }

abbrev both : Asked
both = record { version = 4; algorithm = 5; usage = 3; side = 1; place = 0; mcc = 0; mnc = 0 }

-- an initial value with bits 0 to 7 and bits 24 to 31 so, and two bytes to cipher
abbrev iv_with : ℕ → ℕ → List ℕ
iv_with x y = x ∷ 0 ∷ 0 ∷ y ∷ replicate 6 0

abbrev pdu : List ℕ
pdu = 0xa5 ∷ 0x3c ∷ []

abbrev ciphered : ℕ → ℕ → List ℕ → ℕ → ℕ → ℕ → Call
ciphered direction number iv start n skip = traffic (record { direction = direction; number = number; iv = iv }) pdu (span start n skip)

abbrev pub example : List ℕ → List ℕ → List Call
example key other =
    load 1 send_only key
    ∷ load 2 both other
    ∷ move 1 3 0
    ∷ ciphered 2 3 (iv_with 0 8) 3 8 0
    ∷ ciphered 1 3 (iv_with 0 8) 3 8 0
    ∷ ciphered 1 3 (iv_with 0 0) 3 8 0
    ∷ ciphered 1 2 (iv_with 128 0) 0 16 255
    ∷ move 3 4 3
    ∷ read 3
    ∷ clear 3
    ∷ read 3
    ∷ []

module _ (key other : List ℕ) where
  pub refusals : map (λ (x : Seen). x.refusal) (run our_card (start_of empty_table) (example key other)) ≡ 0 ∷ 0 ∷ 0 ∷ 12 ∷ 13 ∷ 0 ∷ 0 ∷ 14 ∷ 0 ∷ 0 ∷ 8 ∷ []
  unfolding run next step traced load_refusal_of move_refusal_of slot_refusal_of clear_refusal_of use_refusal_of traffic_refusal_of span_refusal has_bad is_bad is_filled is_empty all_zero bit_at bit_of
  refusals = refl

  pub blocks : map (λ (x : Seen). x.blocks) (run our_card (start_of empty_table) (example key other)) ≡ 0 ∷ 0 ∷ 0 ∷ 0 ∷ 0 ∷ 1 ∷ 2 ∷ 0 ∷ 0 ∷ 0 ∷ 0 ∷ []
  unfolding run next step traced load_refusal_of move_refusal_of slot_refusal_of clear_refusal_of use_refusal_of traffic_refusal_of traffic_blocks_of blocks_used span_refusal has_bad is_bad is_filled is_empty all_zero bit_at bit_of
  blocks = refl

  -- the key of the accepted send, call 5, comes from the load at place 0
  pub origin : trace_at our_card empty_table (example key other) 5 3 ≡ some (load_at 0)
  unfolding run next step state_at traced load_refusal_of move_refusal_of slot_refusal_of clear_refusal_of use_refusal_of traffic_refusal_of span_refusal has_bad is_bad is_filled is_empty all_zero bit_at bit_of
  origin = refl

-- a key of TEA6 for both, with side 0 at place 28, in slot 1: it cannot have been loaded by these calls

abbrev out_of_service_key : Asked
out_of_service_key = record { version = 3; algorithm = 6; usage = 3; side = 0; place = 28; mcc = 262; mnc = 1001 }

abbrev pub stored : List ℕ → List Slot
stored key = with_slot empty_table 1 (record { fields = stored_of out_of_service_key; key = key })

abbrev pub later : List ℕ → List Call
later other =
    load 2 out_of_service_key other
    ∷ ciphered 1 1 (iv_with 0 0) 3 8 0
    ∷ ciphered 2 1 (iv_with 0 8) 3 8 0
    ∷ read 1
    ∷ move 1 3 3
    ∷ ciphered 2 3 (iv_with 0 8) 3 8 0
    ∷ clear 3
    ∷ []

module _ (key other : List ℕ) where
  pub later-refusals : map (λ (x : Seen). x.refusal) (run our_card (start_of (stored key)) (later other)) ≡ 21 ∷ 21 ∷ 0 ∷ 0 ∷ 0 ∷ 0 ∷ 0 ∷ []
  unfolding run next step traced load_refusal_of move_refusal_of slot_refusal_of clear_refusal_of use_refusal_of traffic_refusal_of span_refusal has_bad is_bad is_filled is_empty all_zero bit_at bit_of
  later-refusals = refl

  -- the key of the second receive, call 5, comes from slot 1 as it was at the start
  pub later-origin : trace_at our_card (stored key) (later other) 5 3 ≡ some (present 1)
  unfolding run next step state_at traced load_refusal_of move_refusal_of slot_refusal_of clear_refusal_of use_refusal_of traffic_refusal_of span_refusal has_bad is_bad is_filled is_empty all_zero bit_at bit_of
  later-origin = refl
