-- The bench call (document 01, "Slots and rights"): algorithm, key, IV, buffer and length, with no slot. Assumes nothing: these are definitions.
use Rattle.std.specs.Prelude.{not, List, ℕ, eqb, length}
use Rattle.laws.specs.Choice.{pick}
use Rattle.refusals.specs.Numbers.{done, algorithm_unknown, bench_key_not24, iv_not10, refuse}
use Rattle.fields.specs.Fields.{is_algorithm}
use Rattle.span.specs.Span.{written}
use Rattle.block_counts.specs.Counts.{blocks_used}
use Rattle.keystream.specs.Stream.{keystream}
use Rattle.ciphering.specs.Span.{span_refusal, Ciphered, ciphered_as}

-- keystream under a key that comes with the call, in the order 1, 2, 3, 5, 4, 6: by the algorithm, the bytes that key, IV and buffer have,
-- and the run of bits
unfoldable pub keyed_refusal : ℕ → ℕ → ℕ → ℕ → ℕ → ℕ → ℕ → ℕ
keyed_refusal algorithm key iv size start n skip =
    refuse (not (is_algorithm algorithm)) algorithm_unknown
    (refuse (not (eqb key 24)) bench_key_not24
    (refuse (not (eqb iv 10)) iv_not10
    (span_refusal size start n skip)))

-- the bench call starts at bit 0 and skips none
abbrev pub bench_refusal : ℕ → List ℕ → List ℕ → List ℕ → ℕ → ℕ
bench_refusal algorithm key iv buf n = keyed_refusal algorithm (length key) (length iv) (length buf) 0 n 0

-- the buffer afterwards: its first n bits are the keystream's, and a refusal changes nothing
unfoldable pub benched : ℕ → List ℕ → List ℕ → List ℕ → ℕ → List ℕ
benched algorithm key iv buf n =
    pick (eqb (bench_refusal algorithm key iv buf n) done) (written buf (keystream algorithm key iv) 0 0 n) buf

-- the blocks reported
unfoldable pub bench_blocks : ℕ → List ℕ → List ℕ → List ℕ → ℕ → ℕ
bench_blocks algorithm key iv buf n = pick (eqb (bench_refusal algorithm key iv buf n) done) (blocks_used 0 n) 0

-- all that the call answers
abbrev pub bench_answer : ℕ → List ℕ → List ℕ → List ℕ → ℕ → Ciphered
bench_answer algorithm key iv buf n =
    ciphered_as (bench_refusal algorithm key iv buf n) (benched algorithm key iv buf n) (bench_blocks algorithm key iv buf n)
