-- A card, by what its calls do. Assumes nothing: these are definitions.
use Rattle.std.specs.Prelude.{List, ℕ}
use Rattle.fields.specs.declared.Asked.{Asked}
use Rattle.slots.specs.declared.Slot.{Slot}
use Rattle.slot_calls.specs.Answers.{Changed, Shown}
use Rattle.whole.specs.declared.Pdu.{Pdu}
use Rattle.two_runs.specs.Calls.{Use, Work, span, pdu, Call, load, move, clear, read, traffic}
use Rattle.two_runs.specs.Step.{Step, changing, reading, ciphering}

-- on a table, with the call's arguments: any call may change the table, and may show anything
pub record Card : Type 0 where
  pub load : List Slot → ℕ → Asked → List ℕ → Step
  pub move : List Slot → ℕ → ℕ → ℕ → Step
  pub clear : List Slot → ℕ → Step
  pub read : List Slot → ℕ → Step
  pub traffic : List Slot → Use → List ℕ → Work → Step

unfoldable pub step : Card → List Slot → Call → Step
step card table (load number a key) = card.load table number a key
step card table (move from to asked) = card.move table from to asked
step card table (clear number) = card.clear table number
step card table (read number) = card.read table number
step card table (traffic how buf w) = card.traffic table how buf w

-- an answer to a traffic call: of the table, direction, slot number, initial value, buffer, start bit, length and skip
abbrev pub OfTraffic : Type 0 → Type 0
OfTraffic A = List Slot → ℕ → ℕ → List ℕ → List ℕ → ℕ → ℕ → ℕ → A

-- and to a call for a whole PDU: of the table, direction, slot number, initial value, buffer and the plan's inputs
abbrev pub OfPdu : Type 0 → Type 0
OfPdu A = List Slot → ℕ → ℕ → List ℕ → List ℕ → Pdu → A

abbrev pub traffic_by : OfTraffic ℕ → OfTraffic ℕ → OfTraffic (List ℕ) → OfPdu ℕ → OfPdu ℕ → OfPdu (List ℕ) → List Slot → Use → List ℕ → Work → Step
traffic_by refusal blocks buffer refusesPdu countsPdu writesPdu table how buf (span start n skip) =
    ciphering table
    (refusal table how.direction how.number how.iv buf start n skip)
    (blocks table how.direction how.number how.iv buf start n skip)
    (buffer table how.direction how.number how.iv buf start n skip)
traffic_by refusal blocks buffer refusesPdu countsPdu writesPdu table how buf (pdu u) =
    ciphering table
    (refusesPdu table how.direction how.number how.iv buf u)
    (countsPdu table how.direction how.number how.iv buf u)
    (writesPdu table how.direction how.number how.iv buf u)

-- a card by its answers to load, move, clear and read, and the refusal, the block count and the buffer of traffic, and of a call for a whole PDU; a read
-- and a traffic call leave the table as it is
abbrev pub card_by : (List Slot → ℕ → Asked → List ℕ → Changed) → (List Slot → ℕ → ℕ → ℕ → Changed) → (List Slot → ℕ → Changed) → (List Slot → ℕ → Shown) → OfTraffic ℕ → OfTraffic ℕ → OfTraffic (List ℕ) → OfPdu ℕ → OfPdu ℕ → OfPdu (List ℕ) → Card
card_by loads moves clears reads refusal blocks buffer refusesPdu countsPdu writesPdu = record {
  load = λ table number a key. changing (loads table number a key);
  move = λ table from to asked. changing (moves table from to asked);
  clear = λ table number. changing (clears table number);
  read = λ table number. reading table (reads table number);
  traffic = traffic_by refusal blocks buffer refusesPdu countsPdu writesPdu;
}
