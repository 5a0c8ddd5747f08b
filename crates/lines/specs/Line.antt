-- The lines of a text: the parts of one, which single spaces separate, and the line and the column of a place. Assumes nothing: these are definitions.
use Rattle.std.specs.Prelude.{List, [], ◌∷◌, ℕ, zero, suc, ◌+◌, ◌-◌, eqb, length, take, drop}
use Rattle.laws.specs.Choice.{pick}
use Rattle.writing.specs.Text.{lf}

abbrev pub space : ℕ
space = 32

-- the place of the first byte b, or the length where there is none
unfoldable pub index_of : ℕ → List ℕ → ℕ
index_of b [] = 0
index_of b (x ∷ s) = pick (eqb x b) 0 (suc (index_of b s))

-- the bytes before the first byte b
abbrev pub up_to : ℕ → List ℕ → List ℕ
up_to b s = take (index_of b s) s

-- how many bytes the first piece of a text takes, with the byte b that ends it. The last piece may lack it
unfoldable pub piece_length : ℕ → List ℕ → ℕ
piece_length b s = pick (eqb (index_of b s) (length s)) (length s) (suc (index_of b s))

-- what follows k spaces: nothing, where there are fewer
unfoldable pub after_spaces : ℕ → List ℕ → List ℕ
after_spaces zero s = s
after_spaces (suc k) s = after_spaces k (drop (piece_length space s) s)

-- part k of a line, counted from 0
unfoldable pub part : ℕ → List ℕ → List ℕ
part k line = up_to space (after_spaces k line)

-- how many line ends a text has
unfoldable pub line_ends : List ℕ → ℕ
line_ends [] = 0
line_ends (b ∷ s) = pick (eqb b lf) 1 0 + line_ends s

-- the line in which a place lies, counted from 1
unfoldable pub line_of : List ℕ → ℕ → ℕ
line_of s place = 1 + line_ends (take place s)

-- the column that follows a text which begins at a column: 1 after a line end, and one more after any other byte
unfoldable pub column_after : ℕ → List ℕ → ℕ
column_after column [] = column
column_after column (b ∷ s) = column_after (pick (eqb b lf) 1 (column + 1)) s

-- the column of a place in its line, counted from 1
unfoldable pub column_of : List ℕ → ℕ → ℕ
column_of s place = column_after 1 (take place s)

-- how many bytes of a text the first n line ends take, with what stands before them
unfoldable pub through_ends : ℕ → List ℕ → ℕ
through_ends n [] = 0
through_ends n (b ∷ s) = pick (eqb n 0) 0 (suc (through_ends (pick (eqb b lf) (n - 1) n) s))

-- the place that a line and a column name
unfoldable pub place_at : List ℕ → ℕ → ℕ → ℕ
place_at s line column = through_ends (line - 1) s + (column - 1)
