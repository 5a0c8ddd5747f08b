-- Against a card that is right from the empty table, and wrong with a key that it would not load itself: `other-present`. Assumes nothing.
use mathlib.Core.List.{List, [], ◌∷◌}
use mathlib.Core.Path.{◌≡◌, refl}
use Prim.Native.Nat.{ℕ}
use native.Mathlib.Omega.{arith}
use lib.ListN.{replicate}
use Rattle.laws.specs.Choice.{pick}
use Rattle.fields.specs.Fields.{out_of_service}
use Rattle.slots.specs.declared.Slot.{Slot}
use Rattle.slots.specs.Slots.{all_zero, is_empty, is_filled, is_bad, has_bad, empty, slot_at, empty_table, with_slot}
use Rattle.slot_calls.specs.Calls.{loaded, moved, cleared, shown}
use Rattle.traffic.specs.Traffic.{traffic_refusal, traffic_blocks, trafficked}
use Rattle.whole.specs.Whole.{whole_refusal, whole_blocks, wholed}
use Rattle.two_runs.specs.Calls.{read, end, more, same, slot, other-present, Starts}
use Rattle.two_runs.specs.Card.{Card, step, card_by}
use Rattle.two_runs.specs.Run.{run}
use Rattle.two_runs.specs.Demand.{Demand3}
use Rattle.two_runs.proofs.Start.{itself}
use Rattle.two_runs.proofs.Against.{made, key_of, key_byte, all_chosen}

-- a read shows the first byte of a key of TEA6, which no load brings, as the slot's number
abbrev pub leaks_tea6 : Card
leaks_tea6 =
    card_by loaded moved cleared
    (λ table number.
    record {
      refusal = (shown table number).refusal;
      number = pick (out_of_service (slot_at table number).fields.algorithm) (key_byte table number) (shown table number).number;
      fields = (shown table number).fields;
    })
    traffic_refusal traffic_blocks trafficked whole_refusal whole_blocks wholed

-- a key of TEA6, for sending only, in slot 1
abbrev pub tea6 : List ℕ → List Slot
tea6 key = with_slot empty_table 1 (made 7 6 1 0 28 0 0 key)

two-keys : Starts all_chosen (tea6 (key_of 0)) (tea6 (key_of 1))
unfolding has_bad is_bad is_filled is_empty all_zero
two-keys = record { size = refl; sound = refl; twins = slot (other-present _ (key_of 0) (key_of 1) refl refl) (itself all_chosen (replicate 31 empty)) }

pub leaks-tea6 : Demand3 leaks_tea6 → ⊥
unfolding step run
leaks-tea6 demand =
    let e : ◌≡◌ {A = ℕ} 0 1 = ((demand all_chosen (tea6 (key_of 0)) (tea6 (key_of 1)) two-keys (read 1 ∷ []) _ (more (same _) end)).agree 0).number in
    omega arith
