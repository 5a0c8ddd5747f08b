-- Cards that are ours but for one answer, and that demand 3 shuts out: what these cards, and the short lists of calls that refute them, have in
-- common. The files Against.. refute them, clause by clause of the statement (docs/DEMAND-3.md, "What each clause is for"). Assumes nothing.
use mathlib.Core.Bool.{Bool, true, false}
use mathlib.Core.List.{List, [], ◌∷◌}
use Prim.Native.Nat.{ℕ}
use lib.ListN.{get_or, replicate}
use Rattle.fields.specs.declared.Asked.{Asked}
use Rattle.fields.specs.Fields.{stored_of}
use Rattle.slots.specs.declared.Slot.{Slot}
use Rattle.slot_calls.specs.Answers.{Changed, Shown}
use Rattle.slots.specs.Slots.{empty, slot_at, with_slot}
use Rattle.slot_calls.specs.Calls.{move_refusal, answered, loaded, moved, cleared, shown}
use Rattle.traffic.specs.Traffic.{traffic_refusal, traffic_blocks, trafficked}
use Rattle.whole.specs.Whole.{whole_refusal, whole_blocks, wholed}
use Rattle.two_runs.specs.Calls.{Use, Origin}
use Rattle.two_runs.specs.Card.{Card, OfTraffic, OfPdu, card_by}

-- our card, but for one answer

abbrev pub loading : (List Slot → ℕ → Asked → List ℕ → Changed) → Card
loading loads = card_by loads moved cleared shown traffic_refusal traffic_blocks trafficked whole_refusal whole_blocks wholed

-- what arrives is made of the slot that left
abbrev pub moving : (Slot → Slot) → Card
moving f =
    card_by loaded (λ table from to asked. answered (move_refusal table from to asked) table (with_slot (with_slot table to (f (slot_at table from))) from empty)) cleared shown
    traffic_refusal traffic_blocks trafficked whole_refusal whole_blocks wholed

abbrev pub clearing : (List Slot → ℕ → Changed) → Card
clearing clears = card_by loaded moved clears shown traffic_refusal traffic_blocks trafficked whole_refusal whole_blocks wholed

abbrev pub showing : (List Slot → ℕ → Shown) → Card
showing reads = card_by loaded moved cleared reads traffic_refusal traffic_blocks trafficked whole_refusal whole_blocks wholed

abbrev pub refusing : OfTraffic ℕ → Card
refusing refusal = card_by loaded moved cleared shown refusal traffic_blocks trafficked whole_refusal whole_blocks wholed

abbrev pub counting : OfTraffic ℕ → Card
counting blocks = card_by loaded moved cleared shown traffic_refusal blocks trafficked whole_refusal whole_blocks wholed

abbrev pub writing : OfTraffic (List ℕ) → Card
writing buffer = card_by loaded moved cleared shown traffic_refusal traffic_blocks buffer whole_refusal whole_blocks wholed

abbrev pub writing_pdu : OfPdu (List ℕ) → Card
writing_pdu buffer = card_by loaded moved cleared shown traffic_refusal traffic_blocks trafficked whole_refusal whole_blocks buffer

-- what the lists of calls are made of: a key of TEA5 for any use, with side 0 at place 28, of network 262, 1001; a key of one byte 24 times; an initial value of
-- zeros, and one whose bit 28 is 1; one byte to cipher

abbrev pub asked : ℕ → Asked
asked usage = record { version = 7; algorithm = 5; usage = usage; side = 0; place = 28; mcc = 262; mnc = 1001 }

abbrev pub slot_of : ℕ → List ℕ → Slot
slot_of usage key = record { fields = stored_of (asked usage); key = key }

abbrev pub made : ℕ → ℕ → ℕ → ℕ → ℕ → ℕ → ℕ → List ℕ → Slot
made version algorithm usage side place mcc mnc key =
    record { fields = record { version = version; algorithm = algorithm; usage = usage; side = side; place = place; mcc = mcc; mnc = mnc }; key = key }

abbrev pub key_of : ℕ → List ℕ
key_of b = replicate 24 b

abbrev pub key_byte : List Slot → ℕ → ℕ
key_byte table number = get_or (slot_at table number).key 0 0

abbrev pub zeros : List ℕ
zeros = replicate 10 0

abbrev pub iv28 : List ℕ
iv28 = 0 ∷ 0 ∷ 0 ∷ 8 ∷ replicate 6 0

abbrev pub used : ℕ → ℕ → List ℕ → Use
used direction number iv = record { direction = direction; number = number; iv = iv }

abbrev pub byte : List ℕ
byte = 0 ∷ []

-- choices of origins

abbrev pub none_chosen : Origin → Bool
none_chosen origin = false

abbrev pub all_chosen : Origin → Bool
all_chosen origin = true

-- what a move may make of a slot: one for both directions, or one with place 0

abbrev pub for_both : Slot → Slot
for_both s = made s.fields.version s.fields.algorithm 3 s.fields.side s.fields.place s.fields.mcc s.fields.mnc s.key

abbrev pub at_place0 : Slot → Slot
at_place0 s = made s.fields.version s.fields.algorithm s.fields.usage s.fields.side 0 s.fields.mcc s.fields.mnc s.key
