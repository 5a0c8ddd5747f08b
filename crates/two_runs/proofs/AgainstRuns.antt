-- The runs by which cards are refuted: a key is loaded into slot 1 of the empty table, and then a call is made. Assumes nothing.
use mathlib.Core.List.{List}
use mathlib.Core.Option.{some}
use mathlib.Core.Path.{◌≡◌, refl, sym, ap, subst, ◌∙◌}
use Prim.Native.Nat.{ℕ, ◌+◌, ◌<◌}
use native.Mathlib.Omega.{arith}
use lib.Bits.{xor_zero_l}
use lib.ListN.{get_or}
use Rattle.laws.specs.Bits.{bit_of, bit_at}
use Rattle.slots.specs.declared.Slot.{Slot}
use Rattle.slots.specs.Slots.{all_zero, is_empty, is_filled, is_bad, has_bad, empty_table, with_slot}
use Rattle.slot_calls.specs.Calls.{load_refusal_of, slot_refusal_of, loaded}
use Rattle.span.specs.Span.{xored}
use Rattle.span.proofs.Laws.{xored-inside}
use Rattle.span.proofs.Stream.{stream-lt}
use Rattle.keystream.specs.Stream.{keystream}
use Rattle.known_bits.proofs.Known.{known}
use Rattle.ciphering.specs.Span.{span_refusal}
use Rattle.traffic.specs.Traffic.{use_refusal_of, use_refusal, traffic_refusal_of, traffic_refusal, trafficked}
use Rattle.traffic.proofs.Laws.{traffic-accepted}
use Rattle.two_runs.specs.Calls.{Call, load, load_at, end, more, same, other_key}
use Rattle.two_runs.specs.Step.{told, changing}
use Rattle.two_runs.specs.Card.{Card, step}
use Rattle.two_runs.specs.Trace.{at_start, put, traced}
use Rattle.two_runs.specs.Run.{State, start_of, next, run, state_at}
use Rattle.two_runs.specs.Demand.{Agree, Demand3FromEmpty}
use Rattle.two_runs.proofs.Against.{asked, slot_of, key_of, zeros, byte, all_chosen}

unfoldable pub holding : List ℕ → List Slot
holding key = with_slot empty_table 1 (slot_of 1 key)

abbrev pub after_load : List ℕ → State
after_load key = record { place = 1; table = holding key; trace = put 1 (some (load_at 0)) (at_start empty_table) }

-- a card that loads as ours does
abbrev pub Loads : Card → Type 0
Loads card = (key : List ℕ) → card.load empty_table 1 (asked 1) key ≡ record { table = holding key; seen = told 0 }

pub loads : (key : List ℕ) → changing (loaded empty_table 1 (asked 1) key) ≡ record { table = holding key; seen = told 0 }
unfolding holding load_refusal_of has_bad is_bad is_filled is_empty all_zero
loads key = refl

subst_both : (P : State → State → Type 0) {s s' t t' : State} → s ≡ s' → t ≡ t' → P s t → P s' t'
subst_both P {s} {s'} {t} {t'} e f p = subst (λ (v : State). P v t') e (subst (P s) f p)

module _ (card : Card) (loads : Loads card) where
  pub next-is : (key : List ℕ) → next card (start_of empty_table) (load 1 (asked 1) key) ≡ after_load key
  unfolding next step traced
  next-is key = rw (loads key)

  -- whatever two keys were loaded, what is seen of the call would agree
  pub would-agree : Demand3FromEmpty card → (c : Call) (key other : List ℕ) → Agree all_chosen c (after_load key).trace (step card (holding key) c).seen (step card (holding other) c).seen
  unfolding run state_at
  would-agree demand c key other =
      subst_both (λ s t. Agree all_chosen c s.trace (step card s.table c).seen (step card t.table c).seen) (next-is key) (next-is other)
      ((demand all_chosen _ _ (more (other_key 1 (asked 1) key other refl) (more (same c) end))).agree 1)

-- a send with that key, of n bits of one byte: it is accepted, and its bits are the keystream's

pub may-send : (key : List ℕ) → use_refusal (holding key) 1 1 zeros ≡ 0
unfolding holding use_refusal_of slot_refusal_of has_bad is_bad is_filled is_empty all_zero bit_at bit_of
may-send key = refl

module _ (key : List ℕ) (start n skip : ℕ) (fits : span_refusal 1 start n skip ≡ 0) where
  pub sent : traffic_refusal (holding key) 1 1 zeros byte start n skip ≡ 0
  unfolding traffic_refusal_of
  sent = rw (may-send key) fits

  pub sent-buffer : trafficked (holding key) 1 1 zeros byte start n skip ≡ xored byte (keystream 5 key zeros) start skip n
  unfolding holding
  sent-buffer = traffic-accepted (holding key) 1 1 zeros byte start n skip sent

  sent-bit : (i : ℕ) → i < n → start + i < 8 → bit_at byte (start + i) ≡ 0 → bit_at (trafficked (holding key) 1 1 zeros byte start n skip) (start + i) ≡ keystream 5 key zeros (skip + i)
  sent-bit i below fits_in clear = rw (sent-buffer, xored-inside (keystream 5 key zeros) (stream-lt _) byte start skip n i below fits_in, clear) (xor_zero_l _)

-- keystream bit 1 differs under two keys

pub bit-1-differs : keystream 5 (key_of 0) zeros 1 ≡ keystream 5 (key_of 1) zeros 1 → ⊥
bit-1-differs e =
    let left : keystream 5 (key_of 0) zeros 1 ≡ 1 = ap (λ (l : List ℕ). get_or l 0 0) known in
    let right : keystream 5 (key_of 1) zeros 1 ≡ 0 = ap (λ (l : List ℕ). get_or l 1 0) known in
    let one : ◌≡◌ {A = ℕ} 1 0 = sym left ∙ e ∙ right in
    omega arith

module _ (start n skip i : ℕ) (fits : span_refusal 1 start n skip ≡ 0) (below : i < n) (fits_in : start + i < 8) (clear : bit_at byte (start + i) ≡ 0) (one : skip + i ≡ 1) where
  abbrev bit : List ℕ → ℕ
  bit key = bit_at (trafficked (holding key) 1 1 zeros byte start n skip) (start + i)

  pub sent-differs : bit (key_of 0) ≡ bit (key_of 1) → ⊥
  sent-differs e = bit-1-differs (sym (given (key_of 0)) ∙ e ∙ given (key_of 1))
    where
      given : (key : List ℕ) → bit key ≡ keystream 5 key zeros 1
      given key = sent-bit key start n skip fits i below fits_in clear ∙ ap (keystream 5 key zeros) one
