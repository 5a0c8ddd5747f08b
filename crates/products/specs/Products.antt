-- The table that folds the S-box and the mixing of a column (the Rijndael proposal, 4.2.1, 4.2.3) together. Assumes nothing: these are definitions.
use Rattle.std.specs.Prelude.{List, [], ◌∷◌, ℕ, ◌/◌, ◌%◌, get_or}
use Rattle.laws.specs.Lists.{tabulate}
use Rattle.gf256.specs.Field.{times, s_box}

-- what a byte whose S-box value is s adds to the bytes of its mixed column, from the one above its own row's upwards and around
unfoldable pub share : ℕ → ℕ → ℕ
share s k = get_or (times 3 s ∷ s ∷ s ∷ times 2 s ∷ []) (k % 4) 0

-- eight of these for each byte, so that those of any row stand side by side
unfoldable pub products : List ℕ
products = tabulate (λ i. share (s_box (i / 8)) (i % 8)) 0 2048
