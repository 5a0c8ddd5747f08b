-- The expansion of the initial value (ETSI TS 104 053-2, clauses 5.2, 6.2, 7.2). Assumes nothing: these are definitions.
use Rattle.std.specs.Prelude.{List, ℕ, ◌+◌, get_or}
use Rattle.std.specs.Int.Bits.{bit_xor}
use Rattle.laws.specs.Lists.{tabulate, sequence}
use Rattle.gf256.specs.Field.{times}

-- b[i] from b[i-10], b[i-9] and b[i-1]
abbrev pub mixed : ℕ → ℕ → ℕ → ℕ
mixed ten nine one = bit_xor (bit_xor ten nine) (times 0xd7 one)

-- b[i]: the first ten are the initial value's
unfoldable pub expanded_byte : List ℕ → ℕ → ℕ
expanded_byte iv = sequence (λ i w. mixed (get_or w 0 0) (get_or w 1 0) (get_or w 9 0)) iv

-- IVX: b[20] to b[43]
unfoldable pub mixed_value : List ℕ → List ℕ
mixed_value iv = tabulate (λ k. expanded_byte iv (20 + k)) 0 24
