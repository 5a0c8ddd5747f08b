-- Demand 1: "a refused call changes no bit of a buffer or slot". For each public call, over the definitions that its contract cites: where
-- the answer is not 0, all that the call was lent to write is as it was, and every number that it reports is 0 (a record's refusal keeps
-- its line and column). Assumes nothing.
use mathlib.Core.Path.{◌≡◌, refl}
use mathlib.Core.Logic.{⊎_elim}
use mathlib.Core.Bool.{Bool, true, false}
use mathlib.Core.List.{List}
use Prim.Native.Nat.{ℕ, ◌<◌}
use lib.Dec.{eqb}
use lib.ListN.{length, replicate}
use borrow.Author.Tests.{ne_eqb, lt-ltb}
use Rattle.laws.specs.Choice.{pick}
use Rattle.refusals.specs.Numbers.{done, record_text_bad}
use Rattle.fields.specs.declared.Asked.{Asked}
use Rattle.slots.specs.declared.Slot.{Slot}
use Rattle.slot_calls.specs.Answers.{Shown}
use Rattle.fields.specs.Fields.{no_fields}
use Rattle.slots.specs.Slots.{slot_at}
use Rattle.slot_calls.specs.Calls.{load_refusal_of, move_refusal_of, clear_refusal_of}
use Rattle.record_reader.specs.Lines.{no_key}
use Rattle.lines.specs.Line.{line_of, column_of}
use Rattle.record_reader.specs.Record.{record_read}
use Rattle.record_writer.specs.Written.{write_refusal, record_written, buffer_written}
use Rattle.records.proofs.Promises.{read-or-refused}
use Rattle.plan.specs.Plan.{plan_refusal, plan_of}
use Rattle.sheet.specs.Sheet.{room, listed_length, listed_buffer}
use Rattle.bench.specs.Bench.{bench_refusal, benched, bench_blocks}
use Rattle.faces.specs.Faces.{piece_numbers}
use Rattle.slot_list.specs.List.{is_no_table}
use Rattle.card.specs.Table.{loaded_in, moved_in, cleared_in, shown_in, traffic_answer_in, whole_answer_in}
use Rattle.whole.specs.declared.Pdu.{Pdu}
use Rattle.whole.proofs.Calls.{whole-refused, whole-no-blocks}
use Rattle.traffic.specs.Traffic.{trafficked_of, traffic_blocks_of}

module _ (t : List Slot) where
  -- `card_load`, `card_move`, `card_clear`: the lent list is as it was

  pub load-refused : (number : ℕ) (a : Asked) (key : List ℕ) → ((loaded_in t number a key).refusal ≡ done → ⊥) → (loaded_in t number a key).table ≡ t
  load-refused number a key n = rw (ne_eqb (load_refusal_of (is_no_table t) (slot_at t number) number a) done n)

  pub move-refused : (from to asked : ℕ) → ((moved_in t from to asked).refusal ≡ done → ⊥) → (moved_in t from to asked).table ≡ t
  move-refused from to asked n = rw (ne_eqb (move_refusal_of (is_no_table t) (slot_at t from) (slot_at t to) from to asked) done n)

  pub clear-refused : (number : ℕ) → ((cleared_in t number).refusal ≡ done → ⊥) → (cleared_in t number).table ≡ t
  clear-refused number n = rw (ne_eqb (clear_refusal_of (is_no_table t) (slot_at t number) number) done n)

  -- `card_read`: no number and no field is shown
  pub read-refused : (number : ℕ) → ((shown_in t number).refusal ≡ done → ⊥) → ((shown_in t number).number ≡ 0) × ((shown_in t number).fields ≡ no_fields)
  read-refused number = go (eqb (clear_refusal_of (is_no_table t) (slot_at t number) number) done)
    where
      nothing : Shown
      nothing = record { refusal = clear_refusal_of (is_no_table t) (slot_at t number) number; number = 0; fields = no_fields }

      all : Shown
      all = record { refusal = done; number = number; fields = (slot_at t number).fields }

      go : (b : Bool) → ((pick b all nothing).refusal ≡ done → ⊥) → ((pick b all nothing).number ≡ 0) × ((pick b all nothing).fields ≡ no_fields)
      go true n = absurd (n refl)
      go false n = (refl, refl)

  -- `card_traffic`: the buffer is as it was, and no block is reported
  pub traffic-refused-in : (direction number : ℕ) (iv buf : List ℕ) (start n skip : ℕ) → ((traffic_answer_in t direction number iv buf start n skip).refusal ≡ done → ⊥)
      → ((traffic_answer_in t direction number iv buf start n skip).buffer ≡ buf) × ((traffic_answer_in t direction number iv buf start n skip).blocks ≡ 0)
  unfolding trafficked_of traffic_blocks_of
  traffic-refused-in direction number iv buf start n skip r =
      rw (ne_eqb ((traffic_answer_in t direction number iv buf start n skip).refusal) done r) (refl, refl)

  -- `card_pdu`: the same
  pub pdu-refused-in : (direction number : ℕ) (iv buf : List ℕ) (u : Pdu) → ((whole_answer_in t direction number iv buf u).refusal ≡ done → ⊥)
      → ((whole_answer_in t direction number iv buf u).buffer ≡ buf) × ((whole_answer_in t direction number iv buf u).blocks ≡ 0)
  pdu-refused-in direction number iv buf u r = (
    whole-refused (is_no_table t) (slot_at t number) direction number iv buf u r,
    whole-no-blocks (is_no_table t) (slot_at t number) direction number iv buf u r,
  )

-- `card_bench`: the buffer is as it was, and no block is reported
pub bench-refused : (algorithm : ℕ) (key iv buf : List ℕ) (n : ℕ) → (bench_refusal algorithm key iv buf n ≡ done → ⊥)
    → (benched algorithm key iv buf n ≡ buf) × (bench_blocks algorithm key iv buf n ≡ 0)
unfolding benched bench_blocks
bench-refused algorithm key iv buf n r = rw (ne_eqb (bench_refusal algorithm key iv buf n) done r) (refl, refl)

-- `card_record_read`: zeros for all but line and column
pub record-read-refused : (s : List ℕ) → ((record_read s).refusal ≡ done → ⊥)
    → (line column : ℕ)
    × (record_read s ≡ record { refusal = record_text_bad; line = line; column = column; used = 0; number = 0; fields = no_fields; key = no_key })
record-read-refused s n = ⊎_elim (λ e. absurd (n e)) (λ r. (line_of s r.place, column_of s r.place, r.answer)) (read-or-refused s)

-- `card_record_write`: no length is reported, and the buffer is as it was
pub record-write-refused : (number : ℕ) (asked : Asked) (key b : List ℕ) → ((record_written number asked key b).refusal ≡ done → ⊥)
    → ((record_written number asked key b).length ≡ 0) × (buffer_written number asked key b ≡ b)
unfolding record_written buffer_written
record-write-refused number asked key b n = rw (ne_eqb (write_refusal number asked key (length b)) done n) (refl, refl)

-- `card_plan`: zeros for both pieces
pub plan-refused : (kind state flag l a s : ℕ) → (plan_refusal kind state flag l a s ≡ done → ⊥)
    → ((plan_of kind state flag l a s).refusal ≡ plan_refusal kind state flag l a s) × (piece_numbers (plan_of kind state flag l a s) ≡ replicate 6 0)
unfolding plan_of
plan-refused kind state flag l a s n = rw (ne_eqb (plan_refusal kind state flag l a s) done n) (refl, refl)

-- `card_slotlist` refuses nothing itself; a buffer without room for every listing is as it was
pub listing-without-room : (sheet b : List ℕ) → length b < room → (listed_length sheet b ≡ 0) × (listed_buffer sheet b ≡ b)
unfolding listed_length listed_buffer
listing-without-room sheet b h = rw (lt-ltb (length b) room h) (refl, refl)
