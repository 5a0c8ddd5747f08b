-- Runs of bits in a buffer: xored with a stream, written from one, zeroed; and the stream of a keystream's blocks.
-- Bits are numbered from 0, bit 0 of a byte is its most significant, and a stream gives each bit by its number. Assumes nothing: these are definitions.
use Rattle.std.specs.Prelude.{List, [], ◌∷◌, ◌++◌, ℕ, ◌+◌, ◌-◌, ◌/◌, ◌%◌, ltb, leb, length}
use Rattle.std.specs.Int.Bits.{bit_xor}
use Rattle.laws.specs.Choice.{pick}
use Rattle.laws.specs.Bits.{bit_at, bytes_of_bits}

-- the longest buffer of a call, in bytes, and the most keystream of a call, in bits, with those that it skips (document 01)
abbrev pub longest_buffer : ℕ
longest_buffer = 8192

abbrev pub longest_stream : ℕ
longest_stream = 8288

-- `inside` where bit j is one of the n bits from `off` on, else `beside`
unfoldable pub in_run : ℕ → ℕ → ℕ → ℕ → ℕ → ℕ
in_run off n j inside beside = pick (leb off j) (pick (ltb j (off + n)) inside beside) beside

-- bit j of the bits p, after the n bits from `off` on were xored with the bits of k from `from` on
unfoldable pub span_bit : (ℕ → ℕ) → (ℕ → ℕ) → ℕ → ℕ → ℕ → ℕ → ℕ
span_bit p k off from n j = in_run off n j (bit_xor (p j) (k (from + (j - off)))) (p j)

-- bit j of the bits p, after the n bits from `off` on became the bits of k from `from` on
unfoldable pub put_bit : (ℕ → ℕ) → (ℕ → ℕ) → ℕ → ℕ → ℕ → ℕ → ℕ
put_bit p k off from n j = in_run off n j (k (from + (j - off))) (p j)

-- the buffer after its n bits from `off` on were xored with the bits of k from `from` on; every other bit stays
unfoldable pub xored : List ℕ → (ℕ → ℕ) → ℕ → ℕ → ℕ → List ℕ
xored old k off from n = bytes_of_bits (span_bit (bit_at old) k off from n) (length old)

-- the buffer after its n bits from `off` on became the bits of k from `from` on; every other bit stays
unfoldable pub written : List ℕ → (ℕ → ℕ) → ℕ → ℕ → ℕ → List ℕ
written old k off from n = bytes_of_bits (put_bit (bit_at old) k off from n) (length old)

-- the stream of zeros
unfoldable pub nought : ℕ → ℕ
nought i = 0

-- the buffer after its n bits from `off` on became 0; every other bit stays
abbrev pub zeroed : List ℕ → ℕ → ℕ → List ℕ
zeroed old off n = written old nought off 0 n

-- a block with a byte 0 before it, and two after it
unfoldable pub framed : List ℕ → List ℕ
framed k = 0 ∷ (k ++ (0 ∷ 0 ∷ []))

-- Bit i of the stream of the blocks b 0, b 1, .., of 256 bits each: bit 256r + 8s + t is bit t of byte s of block r (document 000, clause 5.4).
unfoldable pub stream_bit : (ℕ → List ℕ) → ℕ → ℕ
stream_bit b i = bit_at (b (i / 256)) (i % 256)
