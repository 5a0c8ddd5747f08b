-- What the calls on a buffer share: refusals 5, 4 and 6, in this order (document 01, "Numbers an engineer sees"), the form of their answers,
-- and the key schedules that they fill (document 02, [10]). Assumes nothing: these are definitions.
use Rattle.std.specs.Prelude.{◌||◌, List, ℕ, ◌+◌, ◌*◌, eqb, ltb}
use Rattle.laws.specs.Choice.{pick}
use Rattle.refusals.specs.Numbers.{done, length_bad, buffer_large, span_outside, refuse}
use Rattle.span.specs.Span.{longest_buffer, longest_stream}

-- a buffer of `size` bytes, and n bits of it from `start` on with the keystream's bits from `skip` on
unfoldable pub span_refusal : ℕ → ℕ → ℕ → ℕ → ℕ
span_refusal size start n skip =
    refuse (ltb longest_buffer size) buffer_large
    (refuse (eqb n 0 || ltb longest_stream (skip + n)) length_bad
    (refuse (ltb (8 * size) (start + n)) span_outside
    done))

-- the answer, part by part as its caller has it: the refusal, the buffer afterwards and the blocks reported
pub record Ciphered : Type 0 where
  pub refusal : ℕ
  pub buffer : List ℕ
  pub blocks : ℕ

abbrev pub ciphered_as : ℕ → List ℕ → ℕ → Ciphered
ciphered_as refusal buffer blocks = record { refusal = refusal; buffer = buffer; blocks = blocks }

-- the key schedules that a call fills, by the blocks that it makes: one, and none where it makes no block, as a refused call does
abbrev pub schedules_for : ℕ → ℕ
schedules_for blocks = pick (eqb blocks 0) 0 1
