-- Against cards that show something of a key beside the bits of a buffer: `number`, `fields`, `blocks`, `size`. Assumes nothing.
use mathlib.Core.List.{◌++◌}
use mathlib.Core.Path.{◌≡◌, refl, sym, ap, ◌∙◌}
use Prim.Native.Nat.{ℕ, ◌+◌}
use native.Mathlib.Omega.{arith}
use lib.ListN.{length, length-append, length-replicate, replicate}
use Rattle.fields.specs.declared.Fields.{Fields}
use Rattle.slot_calls.specs.Calls.{shown}
use Rattle.block_counts.specs.Counts.{blocks_used}
use Rattle.span.proofs.Laws.{length-xored}
use Rattle.keystream.specs.Stream.{keystream}
use Rattle.ciphering.specs.Span.{span_refusal}
use Rattle.traffic.specs.Traffic.{traffic_blocks_of, traffic_blocks, trafficked}
use Rattle.two_runs.specs.Calls.{span, read, traffic}
use Rattle.two_runs.specs.Card.{Card, step}
use Rattle.two_runs.specs.Demand.{Demand3FromEmpty}
use Rattle.two_runs.proofs.Against.{showing, counting, writing, key_of, key_byte, zeros, used, byte}
use Rattle.two_runs.proofs.AgainstRuns.{holding, loads, would-agree, sent, sent-buffer}

-- a read that shows the first byte of the key as the slot's number
abbrev pub shows_key_byte : Card
shows_key_byte = showing (λ table number. record { refusal = (shown table number).refusal; number = key_byte table number; fields = (shown table number).fields })

pub shows-key-byte : Demand3FromEmpty shows_key_byte → ⊥
unfolding step holding
shows-key-byte demand =
    let e : ◌≡◌ {A = ℕ} 0 1 = (would-agree shows_key_byte loads demand (read 1) (key_of 0) (key_of 1)).number in
    omega arith

-- a read that shows it as the slot's version

abbrev versioned : ℕ → Fields → Fields
versioned version f = record { version = version; algorithm = f.algorithm; usage = f.usage; side = f.side; place = f.place; mcc = f.mcc; mnc = f.mnc }

abbrev pub shows_key_in_version : Card
shows_key_in_version = showing (λ table number. record { refusal = (shown table number).refusal; number = number; fields = versioned (key_byte table number) (shown table number).fields })

pub shows-key-in-version : Demand3FromEmpty shows_key_in_version → ⊥
unfolding step holding
shows-key-in-version demand =
    let e : ◌≡◌ {A = ℕ} 0 1 = ap (λ (f : Fields). f.version) (would-agree shows_key_in_version loads demand (read 1) (key_of 0) (key_of 1)).fields in
    omega arith

-- a block count by the first byte of the key, in place of the skip
abbrev pub counts_by_key : Card
counts_by_key = counting (λ table direction number iv buf start n skip. traffic_blocks table direction number iv buf start n (key_byte table number))

counted : (b : ℕ) → span_refusal 1 0 2 b ≡ 0 → traffic_blocks (holding (key_of b)) 1 1 zeros byte 0 2 b ≡ blocks_used b 2
unfolding traffic_blocks_of
counted b fits = rw (sent (key_of b) 0 2 b fits)

pub counts-by-key : Demand3FromEmpty counts_by_key → ⊥
unfolding step holding span_refusal blocks_used
counts-by-key demand =
    let same = (would-agree counts_by_key loads demand (traffic (used 1 1 zeros) byte (span 0 2 0)) (key_of 0) (key_of 255)).blocks in
    let e : ◌≡◌ {A = ℕ} 1 2 = sym (counted 0 refl) ∙ same ∙ counted 255 refl in
    omega arith

-- a buffer that is made longer, by as many bytes 0 as the first byte of the key says
abbrev pub lengthens_by_key : Card
lengthens_by_key = writing (λ table direction number iv buf start n skip. trafficked table direction number iv buf start n skip ++ replicate (key_byte table number) 0)

lengthened : (b : ℕ) → span_refusal 1 0 1 0 ≡ 0 → length (trafficked (holding (key_of b)) 1 1 zeros byte 0 1 0 ++ replicate b 0) ≡ 1 + b
lengthened b fits = rw (length-append, sent-buffer (key_of b) 0 1 0 fits, length-xored byte (keystream 5 (key_of b) zeros) 0 0 1, length-replicate {A = ℕ} b 0)

pub lengthens-by-key : Demand3FromEmpty lengthens_by_key → ⊥
unfolding step holding span_refusal
lengthens-by-key demand =
    let same = (would-agree lengthens_by_key loads demand (traffic (used 1 1 zeros) byte (span 0 1 0)) (key_of 0) (key_of 1)).size in
    let e : ◌≡◌ {A = ℕ} 1 2 = sym (lengthened 0 refl) ∙ same ∙ lengthened 1 refl in
    omega arith
