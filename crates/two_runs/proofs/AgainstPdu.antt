-- Against cards that change bits in a call for a whole PDU that should stay: between two pieces, and in a call that is refused. Assumes nothing.
use mathlib.Core.Bool.{true≢false}
use mathlib.Core.List.{List, [], ◌∷◌}
use mathlib.Core.Logic.{⊎_elim}
use mathlib.Core.Path.{◌≡◌, refl, sym, ap, ◌∙◌}
use Prim.Native.Nat.{ℕ, ◌+◌, ◌<◌}
use native.Mathlib.Omega.{arith}
use lib.Bits.{xor_zero_l}
use lib.Dec.{eqb, lit<}
use lib.ListN.{length}
use Rattle.laws.specs.Choice.{pick}
use Rattle.laws.specs.Bits.{bit_of, bit_at}
use Rattle.refusals.specs.Numbers.{done}
use Rattle.slots.specs.Slots.{all_zero, is_empty, is_filled, is_bad, has_bad}
use Rattle.slot_calls.specs.Calls.{slot_refusal_of}
use Rattle.span.proofs.Laws.{xored-inside}
use Rattle.span.proofs.Stream.{stream-lt}
use Rattle.keystream.specs.Stream.{keystream}
use Rattle.plan.specs.Plan.{plan_refusal, planned_pieces, plan_of}
use Rattle.ciphering.specs.Span.{span_refusal}
use Rattle.traffic.specs.Traffic.{use_refusal_of, traffic_refusal_of, traffic_refusal, trafficked}
use Rattle.traffic.proofs.Laws.{traffic-accepted}
use Rattle.whole.specs.declared.Pdu.{Pdu}
use Rattle.whole.specs.Whole.{flag_of, room_refusal, open_refusal_of, whole_refusal_of, whole_refusal, wholed}
use Rattle.two_runs.specs.Calls.{pdu, traffic}
use Rattle.two_runs.specs.Card.{Card, OfPdu, step}
use Rattle.two_runs.specs.Demand.{Demand3FromEmpty}
use Rattle.two_runs.proofs.Against.{writing_pdu, key_of, zeros, used}
use Rattle.two_runs.proofs.AgainstRuns.{holding, loads, would-agree, may-send, bit-1-differs}
use Rattle.two_runs.proofs.AgainstBits.{inside_of}

-- four bytes to cipher, and a PDU of 32 bits in them: kind 1, state 3, its address from bit 0 on
abbrev four : List ℕ
four = 0 ∷ 0 ∷ 0 ∷ 0 ∷ []

abbrev with_sdu : ℕ → Pdu
with_sdu s = record { kind = 1; state = 3; length = 32; address = 0; sdu = s }

-- the second bit of n that traffic ciphers is keystream bit 1
module _ (start n : ℕ) (fits : span_refusal 4 start n 0 ≡ 0) (some : 1 < n) (inside : start + 1 < 32) (clear : bit_at four (start + 1) ≡ 0) where
  sent : (key : List ℕ) → traffic_refusal (holding key) 1 1 zeros four start n 0 ≡ 0
  unfolding traffic_refusal_of
  sent key = rw (may-send key) fits

  given : (key : List ℕ) → bit_at (trafficked (holding key) 1 1 zeros four start n 0) (start + 1) ≡ keystream 5 key zeros 1
  unfolding holding
  given key =
      ap (λ (l : List ℕ). bit_at l (start + 1)) (traffic-accepted (holding key) 1 1 zeros four start n 0 (sent key))
      ∙ xored-inside (keystream 5 key zeros) (stream-lt _) four start 0 n 1 some inside
      ∙ rw clear (xor_zero_l _)

  differs : bit_at (trafficked (holding (key_of 0)) 1 1 zeros four start n 0) (start + 1) ≡ bit_at (trafficked (holding (key_of 1)) 1 1 zeros four start n 0) (start + 1) → ⊥
  differs e = bit-1-differs (sym (given (key_of 0)) ∙ e ∙ given (key_of 1))

-- the last bit of the address and the bit behind it are ciphered: bit 24, between the two pieces, is the keystream's

abbrev pub between_pieces : Card
between_pieces = writing_pdu (λ table direction number iv buf u. trafficked table direction number iv buf (u.address + 23) 2 0)

pub between-pieces : Demand3FromEmpty between_pieces → ⊥
unfolding step span_refusal plan_of plan_refusal planned_pieces flag_of bit_at bit_of
between-pieces demand =
    ⊎_elim
    (differs 23 2 refl (lit< tt) (lit< tt) refl)
    (λ m. true≢false (sym (inside_of m)))
    ((would-agree between_pieces loads demand (traffic (used 1 1 zeros) four (pdu (with_sdu 26))) (key_of 0) (key_of 1)).bits 24)

-- the address is ciphered, and the call is refused then: its DM-SDU starts too early, and the answer is 19

abbrev half_done : OfPdu (List ℕ)
half_done table direction number iv buf u =
    pick (eqb (whole_refusal table direction number iv buf u) done) (wholed table direction number iv buf u) (trafficked table direction number iv buf u.address 24 0)

abbrev pub first_piece_only : Card
first_piece_only = writing_pdu half_done

pub first-piece-only : Demand3FromEmpty first_piece_only → ⊥
unfolding step holding span_refusal whole_refusal_of open_refusal_of room_refusal use_refusal_of slot_refusal_of plan_refusal flag_of has_bad is_bad is_filled is_empty all_zero bit_at bit_of
first-piece-only demand =
    ⊎_elim
    (differs 0 24 refl (lit< tt) (lit< tt) refl)
    (λ m. let e : ◌≡◌ {A = ℕ} 19 0 = m.ciphers.accepted in omega arith)
    ((would-agree first_piece_only loads demand (traffic (used 1 1 zeros) four (pdu (with_sdu 20))) (key_of 0) (key_of 1)).bits 1)
