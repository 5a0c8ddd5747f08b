-- The key expansion with six key words (the Rijndael proposal, 4.3.1): the words of the schedule, as numbers of 32 bits.
-- Assumes nothing: these are definitions.
use Rattle.std.specs.Prelude.{List, ℕ, zero, suc, ◌+◌, ◌-◌, ◌*◌, ◌/◌, ◌%◌, eqb, get_or}
use Rattle.std.specs.Int.Bits.{bit_xor}
use Rattle.laws.specs.Choice.{pick}
use Rattle.laws.specs.Lists.{tabulate, sequence}
use Rattle.gf256.specs.Field.{times_z, s_box}
use Rattle.words.specs.Words.{join}

-- a word turned by one byte
unfoldable pub rot_byte : ℕ → ℕ
rot_byte x = (x % 16777216) * 256 + x / 16777216

-- each byte of a word through the S-box
unfoldable pub sub_byte : ℕ → ℕ
sub_byte x = join (s_box (x / 16777216)) (s_box (x / 65536 % 256)) (s_box (x / 256 % 256)) (s_box (x % 256))

-- the round constants 01, 02, 04, ..: the powers of z
unfoldable pub round_constant : ℕ → ℕ
round_constant zero = 1
round_constant (suc n) = times_z (round_constant n)

-- what goes into word i from the word x before it: turned, substituted and with a round constant where 6 divides i, else x itself
unfoldable pub carried : ℕ → ℕ → ℕ
carried i x = pick (eqb (i % 6) 0) (bit_xor (sub_byte (rot_byte x)) (round_constant (i / 6 - 1) * 16777216)) x

-- word i of the key itself
unfoldable pub packed : List ℕ → ℕ → ℕ
packed k i = join (get_or k (4 * i) 0) (get_or k (4 * i + 1) 0) (get_or k (4 * i + 2) 0) (get_or k (4 * i + 3) 0)

-- word i: the first six are the key's; each later one is the word six before it, and what the word before it carries
unfoldable pub key_word : List ℕ → ℕ → ℕ
key_word k = sequence (λ i w. bit_xor (get_or w 0 0) (carried (i + 6) (get_or w 5 0))) (tabulate (packed k) 0 6)
