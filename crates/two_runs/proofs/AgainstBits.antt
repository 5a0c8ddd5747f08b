-- Against cards that change bits of a buffer that should stay: `bits`, `accepted`, `traced` and `picked`, `high`, `low`. Assumes nothing.
use mathlib.Core.Bool.{Bool, true, false, true≢false}
use mathlib.Core.List.{List, [], ◌∷◌}
use mathlib.Core.Logic.{⊎_elim}
use mathlib.Core.Option.{some}
use mathlib.Core.Path.{◌≡◌, refl, sym, ap, ◌∙◌}
use Prim.Native.Nat.{ℕ, ◌+◌, ◌-◌, ◌*◌, ◌/◌}
use native.Mathlib.Omega.{arith}
use lib.Bits.{xor_zero_l}
use lib.Dec.{eqb, lit<}
use Rattle.laws.specs.Bits.{bit_of, bit_at}
use Rattle.slots.specs.declared.Slot.{Slot}
use Rattle.slots.specs.Slots.{all_zero, is_empty, is_filled, is_bad, has_bad, empty_table, with_slot}
use Rattle.slot_calls.specs.Calls.{load_refusal_of, slot_refusal_of}
use Rattle.span.proofs.Laws.{xored-inside}
use Rattle.span.proofs.Stream.{stream-lt}
use Rattle.keystream.specs.Stream.{keystream}
use Rattle.ciphering.specs.Span.{span_refusal}
use Rattle.traffic.specs.Traffic.{use_refusal_of, traffic_refusal_of, trafficked}
use Rattle.traffic.proofs.Laws.{traffic-accepted}
use Rattle.two_runs.specs.Calls.{Use, Work, span, span_of, Call, load, traffic, Origin, load_at, present, end, more, same, other_key}
use Rattle.two_runs.specs.Step.{Seen}
use Rattle.two_runs.specs.Card.{Card, OfTraffic, step}
use Rattle.two_runs.specs.Trace.{Trace, traced}
use Rattle.two_runs.specs.Run.{next, run, state_at}
use Rattle.two_runs.specs.Demand.{MayDiffer, Demand3FromEmpty}
use Rattle.two_runs.proofs.Against.{writing, asked, slot_of, key_of, zeros, used, byte}
use Rattle.two_runs.proofs.AgainstRuns.{holding, loads, would-agree, bit-1-differs, sent-differs}

-- a refused call is ciphered all the same, as a send: a receive with a key for sending only
abbrev pub xors_refused : Card
xors_refused = writing (λ table direction. trafficked table 1)

pub xors-refused : Demand3FromEmpty xors_refused → ⊥
unfolding step holding span_refusal use_refusal_of traffic_refusal_of slot_refusal_of has_bad is_bad is_filled is_empty all_zero bit_at bit_of
xors-refused demand =
    ⊎_elim
    (sent-differs 0 2 0 1 refl (lit< tt) (lit< tt) refl refl)
    (λ m. let e : ◌≡◌ {A = ℕ} 12 0 = m.ciphers.accepted in omega arith)
    ((would-agree xors_refused loads demand (traffic (used 2 1 zeros) byte (span 0 2 0)) (key_of 0) (key_of 1)).bits 1)

-- the keystream is that of the next slot's key, which comes from the second load; that load alone is chosen
abbrev pub next_key : Card
next_key = writing (λ table direction number. trafficked table direction (number + 1))

abbrev two_loads : List ℕ → List Call
two_loads key = load 1 (asked 1) (key_of 1) ∷ load 2 (asked 1) key ∷ traffic (used 1 1 zeros) byte (span 0 2 0) ∷ []

abbrev second : Origin → Bool
second (load_at place) = eqb place 1
second (present number) = false

abbrev both : List ℕ → List Slot
both key = with_slot (with_slot empty_table 1 (slot_of 1 (key_of 1))) 2 (slot_of 1 key)

next_bit : (key : List ℕ) → bit_at (trafficked (both key) 1 2 zeros byte 0 2 0) 1 ≡ keystream 5 key zeros 1
unfolding slot_refusal_of use_refusal_of traffic_refusal_of span_refusal has_bad is_bad is_filled is_empty all_zero bit_at bit_of
next_bit key =
    ap (λ (l : List ℕ). bit_at l 1) (traffic-accepted (both key) 1 2 zeros byte 0 2 0 refl)
    ∙ xored-inside _ (stream-lt _) byte 0 0 2 1 (lit< tt) (lit< tt)
    ∙ xor_zero_l _

pub next-key : Demand3FromEmpty next_key → ⊥
unfolding step run next state_at traced load_refusal_of has_bad is_bad is_filled is_empty all_zero
next-key demand =
    ⊎_elim
    (λ e. bit-1-differs (sym (next_bit (key_of 0)) ∙ e ∙ next_bit (key_of 1)))
    (λ m.
    let slot-1 : used 1 1 zeros ≡ m.ciphers.how = cc m.ciphers.call in
    let load-0 : some (load_at 0) ≡ some m.ciphers.origin = rw (← slot-1) at m.ciphers.traced in
    let first : load_at 0 ≡ m.ciphers.origin = cc load-0 in
    let no : false ≡ true = rw (← first) at m.picked in
    true≢false (sym no))
    (((demand second (two_loads (key_of 0)) (two_loads (key_of 1)) (more (same _) (more (other_key 2 (asked 1) _ _ refl) (more (same _) end)))).agree 2).bits 1)

-- a bit beside the span would be the same under two keys

pub inside_of : {chosen : Origin → Bool} {how : Use} {buf : List ℕ} {w : Work} {trace : Trace} {x : Seen} {j : ℕ} → MayDiffer chosen (traffic how buf w) trace x j → span_of w buf j ≡ true
inside_of {buf = buf} {w = w} m =
    let work : w ≡ m.ciphers.work = cc m.ciphers.call in
    let bytes : buf ≡ m.ciphers.buf = cc m.ciphers.call in
    rw (work, bytes) m.inside

module _ (buffer : OfTraffic (List ℕ)) (start n skip j : ℕ) (out : span_of (span start n skip) byte j ≡ false) where
  abbrev bit : List ℕ → ℕ
  bit key = bit_at (buffer (holding key) 1 1 zeros byte start n skip) j

  would-stay : Demand3FromEmpty (writing buffer) → bit (key_of 0) ≡ bit (key_of 1)
  unfolding step
  would-stay demand =
      ⊎_elim (λ e. e) (λ m. absurd (true≢false (sym (inside_of m) ∙ out)))
      ((would-agree (writing buffer) loads demand (traffic (used 1 1 zeros) byte (span start n skip)) (key_of 0) (key_of 1)).bits j)

-- the span goes on to the end of its last byte: bit 1, beside a span of one bit, is the keystream's

abbrev whole_last : OfTraffic (List ℕ)
whole_last table direction number iv buf start n skip = trafficked table direction number iv buf start ((start + n + 7) / 8 * 8 - start) skip

abbrev pub whole_last_bytes : Card
whole_last_bytes = writing whole_last

pub whole-last-bytes : Demand3FromEmpty whole_last_bytes → ⊥
unfolding span_refusal bit_at bit_of
whole-last-bytes demand = sent-differs 0 8 0 1 refl (lit< tt) (lit< tt) refl refl (would-stay whole_last 0 1 0 1 refl demand)

-- the span begins a bit early: bit 0, before a span of bit 1, is the keystream's

abbrev early : OfTraffic (List ℕ)
early table direction number iv buf start n skip = trafficked table direction number iv buf (start - 1) (n + 1) skip

abbrev pub begins_early : Card
begins_early = writing early

pub begins-early : Demand3FromEmpty begins_early → ⊥
unfolding span_refusal bit_at bit_of
begins-early demand = sent-differs 0 2 1 0 refl (lit< tt) (lit< tt) refl refl (would-stay early 1 1 1 0 refl demand)
