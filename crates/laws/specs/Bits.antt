-- The bits of bytes and of lists of bytes. Bit 0 of a byte is its most significant bit. Assumes nothing: these are definitions.
use Rattle.std.specs.Prelude.{List, ℕ, ◌+◌, ◌-◌, ◌*◌, ◌/◌, ◌%◌, ◌^◌, get_or}
use Rattle.laws.specs.Lists.{tabulate}

-- bit t of a byte
unfoldable pub bit_of : ℕ → ℕ → ℕ
bit_of x t = x / 2 ^ (7 - t) % 2

-- bit i of a list of bytes
unfoldable pub bit_at : List ℕ → ℕ → ℕ
bit_at l i = bit_of (get_or l (i / 8) 0) (i % 8)

-- the byte whose bit t is p t
unfoldable pub byte_of_bits : (ℕ → ℕ) → ℕ
byte_of_bits p = p 0 * 128 + p 1 * 64 + p 2 * 32 + p 3 * 16 + p 4 * 8 + p 5 * 4 + p 6 * 2 + p 7

-- the n bytes whose bit i is p i
unfoldable pub bytes_of_bits : (ℕ → ℕ) → ℕ → List ℕ
bytes_of_bits p n = tabulate (λ q. byte_of_bits (λ t. p (8 * q + t))) 0 n
