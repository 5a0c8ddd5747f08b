-- The figures of a month as sums over the log's lines (document 02, [13]). Assumes nothing: these are definitions.
use Rattle.std.specs.Prelude.{Bool, ◌&&◌, ◌||◌, List, [], ◌∷◌, ℕ, zero, suc, ◌+◌, ◌/◌, ◌%◌, eqb, length}
use Rattle.laws.specs.Choice.{pick}
use Rattle.logged_calls.specs.declared.Call.{Call}
use Rattle.logged_calls.specs.Log.{is_accepted}
use Rattle.logged_calls.specs.Figures.{total_row}
use Rattle.month_sheet.specs.Sheet.{Sums}

unfoldable pub sum_of_lines : (Call → ℕ) → List Call → ℕ
sum_of_lines f [] = 0
sum_of_lines f (c ∷ cs) = f c + sum_of_lines f cs

-- an accepted call of a slot and direction
abbrev pub is_of : ℕ → ℕ → Call → Bool
is_of slot direction c = is_accepted c && (eqb c.slot slot && eqb c.direction direction)

-- the lines of which a row speaks: those of its slot and direction, or all accepted calls
unfoldable pub in_row : ℕ → Call → Bool
in_row row c = pick (eqb row total_row) (is_accepted c) (is_of (row / 2 + 1) (row % 2 + 1) c)

abbrev pub sums_over : List Call → Sums
sums_over cs =
    record {
      calls = λ row. sum_of_lines (λ c. pick (in_row row c) 1 0) cs;
      bits = λ row. sum_of_lines (λ c. pick (in_row row c) c.bits 0) cs;
      blocks = λ row. sum_of_lines (λ c. pick (in_row row c) c.blocks 0) cs;
      count = λ code. sum_of_lines (λ c. pick (eqb c.code code) 1 0) cs;
      lines = length cs;
    }

-- f 0, f 1, .. added up: n of them
unfoldable pub sum_to : (ℕ → ℕ) → ℕ → ℕ
sum_to f zero = 0
sum_to f (suc n) = sum_to f n + f n
