-- Words of 32 bits and their four bytes, the first highest. Assumes nothing: these are definitions.
use Rattle.std.specs.Prelude.{List, [], ◌∷◌, ℕ, ◌+◌, ◌*◌, ◌/◌, ◌%◌, get_or}

-- four bytes as a word
abbrev pub join : ℕ → ℕ → ℕ → ℕ → ℕ
join a b c d = a * 16777216 + b * 65536 + c * 256 + d

-- byte r of a word
abbrev pub byte_of : ℕ → ℕ → ℕ
byte_of x r = x / get_or (16777216 ∷ 65536 ∷ 256 ∷ 1 ∷ []) r 1 % 256

-- its four bytes
abbrev pub word_bytes : ℕ → List ℕ
word_bytes x = byte_of x 0 ∷ byte_of x 1 ∷ byte_of x 2 ∷ byte_of x 3 ∷ []
