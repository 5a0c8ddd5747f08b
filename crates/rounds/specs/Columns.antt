-- A column at once, mixed (the Rijndael proposal, 4.2.3), and a state as eight words, a column each. Assumes nothing: these are definitions.
use Rattle.std.specs.Prelude.{List, [], ◌∷◌, ℕ, get_or}
use Rattle.laws.specs.Lists.{grid}
use Rattle.words.specs.Words.{byte_of}
use Rattle.round_steps.specs.Steps.{mixed_byte}

-- the mixed column of one whose bytes are a, b, c, d
abbrev pub mixed_column : ℕ → ℕ → ℕ → ℕ → List ℕ
mixed_column a b c d = mixed_byte a b c d ∷ mixed_byte b c d a ∷ mixed_byte c d a b ∷ mixed_byte d a b c ∷ []

-- the state whose column c is the bytes of word c
unfoldable pub of_words : List ℕ → List (List ℕ)
of_words x = grid 4 8 (λ r c. byte_of (get_or x c 0) r)
