-- The slot calls on a lent list of slot records (document 01, "Slots and rights"): by the orders of the calls on a table, where a list that
-- is no table counts as a bad one. Assumes nothing: these are definitions.
use Rattle.std.specs.Prelude.{List, ℕ}
use Rattle.fields.specs.declared.Asked.{Asked}
use Rattle.slots.specs.declared.Slot.{Slot}
use Rattle.slot_calls.specs.Answers.{Changed, Shown}
use Rattle.slots.specs.Slots.{slot_at}
use Rattle.slot_list.specs.List.{is_no_table}
use Rattle.slot_calls.specs.Calls.{loaded_by, moved_by, cleared_by, shown_of}
use Rattle.ciphering.specs.Span.{Ciphered}
use Rattle.traffic.specs.Traffic.{traffic_answer_of}
use Rattle.whole.specs.declared.Pdu.{Pdu}
use Rattle.whole.specs.Whole.{whole_answer_of}

abbrev pub loaded_in : List Slot → ℕ → Asked → List ℕ → Changed
loaded_in t number a key = loaded_by (is_no_table t) t number a key

abbrev pub moved_in : List Slot → ℕ → ℕ → ℕ → Changed
moved_in t from to asked = moved_by (is_no_table t) t from to asked

abbrev pub cleared_in : List Slot → ℕ → Changed
cleared_in t number = cleared_by (is_no_table t) t number

abbrev pub shown_in : List Slot → ℕ → Shown
shown_in t number = shown_of (is_no_table t) (slot_at t number) number

abbrev pub traffic_answer_in : List Slot → ℕ → ℕ → List ℕ → List ℕ → ℕ → ℕ → ℕ → Ciphered
traffic_answer_in t direction number iv buf start n skip = traffic_answer_of (is_no_table t) (slot_at t number) direction number iv buf start n skip

abbrev pub whole_answer_in : List Slot → ℕ → ℕ → List ℕ → List ℕ → Pdu → Ciphered
whole_answer_in t direction number iv buf u = whole_answer_of (is_no_table t) (slot_at t number) direction number iv buf u
