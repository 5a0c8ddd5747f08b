-- A piece of a block is a piece of the stream. Assumes nothing.
use mathlib.Core.Path.{◌≡◌, ◌∙◌}
use mathlib.Core.List.{List}
use Prim.Native.Nat.{ℕ, ◌+◌, ◌*◌, ◌/◌, ◌%◌, ◌<◌, ◌≤◌}
use native.Mathlib.Omega.{arith}
use lib.ListN.{get_or}
use Rattle.laws.specs.Bits.{bit_of, bit_at}
use Rattle.laws.proofs.Bits.{at_lt, at_byte}
use Rattle.span.specs.Span.{xored, stream_bit}
use Rattle.span.proofs.Within.{Binary}
use Rattle.span.proofs.Laws.{xored-same, xored-join}

pub stream-lt : (b : ℕ → List ℕ) → Binary (stream_bit b)
unfolding stream_bit
stream-lt b i = at_lt (b (i / 256)) (i % 256)

-- the clause's own words: bit 256r + 8s + t of the stream is bit t of byte s of block r
pub stream_at : (b : ℕ → List ℕ) (r s t : ℕ) → s < 32 → t < 8 → stream_bit b (256 * r + 8 * s + t) ≡ bit_of (get_or (b r) s 0) t
unfolding stream_bit
stream_at b r s t hs ht =
    let d : (256 * r + 8 * s + t) / 256 ≡ r = omega arith in
    let m : (256 * r + 8 * s + t) % 256 ≡ 8 * s + t = omega arith in
    rw (d, m) (at_byte (b r) s t ht)

-- bit i of the piece that begins at stream bit `at` is stream bit at + i, while the block lasts
piece-bit : (b : ℕ → List ℕ) (at i : ℕ) → at % 256 + i < 256 → bit_at (b (at / 256)) (at % 256 + i) ≡ stream_bit b (at + i)
unfolding stream_bit
piece-bit b at i h =
    let d : (at + i) / 256 ≡ at / 256 = omega arith in
    let m : (at + i) % 256 ≡ at % 256 + i = omega arith in
    rw (d, m)

-- what a loop over blocks does in one turn: after `done` bits, p bits more of the block that holds the next one
pub xored-stretch : (b : ℕ → List ℕ) (l : List ℕ) (start skip done p : ℕ) → (skip + done) % 256 + p ≤ 256
    → xored (xored l (stream_bit b) start skip done) (bit_at (b ((skip + done) / 256))) (start + done) ((skip + done) % 256) p
    ≡ xored l (stream_bit b) start skip (done + p)
xored-stretch b l start skip done p h =
    xored-same _ _ (stream_bit b) (start + done) ((skip + done) % 256) (skip + done) p (λ i u. piece-bit b (skip + done) i (omega arith))
    ∙ xored-join (stream_bit b) (stream-lt b) l start skip done p
