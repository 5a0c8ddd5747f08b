-- What each algorithm has of its own, by its number: f, the digit of its tag, and its name. Assumes nothing: these are definitions.
use Rattle.std.specs.Prelude.{List, [], ◌∷◌, ℕ, eqb}
use Rattle.laws.specs.Choice.{pick}
use Rattle.algorithms.specs.Combining.{f_tea5, f_tea6, f_tea7}

-- 5, 6, 7, and no other number gets here
abbrev pub by_algorithm : {A : Type 0} → ℕ → A → A → A → A
by_algorithm algorithm five six seven = pick (eqb algorithm 5) five (pick (eqb algorithm 6) six seven)

unfoldable pub combining : ℕ → List ℕ
combining algorithm = by_algorithm algorithm f_tea5 f_tea6 f_tea7

-- '5', '6', '7' in ASCII. Clause 6.4 prints 53 for TEA6, while its own text says '6': 54.
unfoldable pub digit_of : ℕ → ℕ
digit_of algorithm = by_algorithm algorithm 53 54 55

-- TEA5, TEA6, TEA7: 'T', 'E', 'A' and the digit
unfoldable pub name_of : ℕ → List ℕ
name_of algorithm = 84 ∷ 69 ∷ 65 ∷ digit_of algorithm ∷ []
