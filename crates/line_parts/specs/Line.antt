-- A line of a record sheet as an office tool may leave it (document 02, [12]), without the LF that ends it: its name and its value. Nothing
-- is dropped but one CR at the end, spaces after the name and spaces before the value. Assumes nothing: these are definitions.
use Rattle.std.specs.Prelude.{Bool, true, false, ◌&&◌, ◌||◌, List, [], ◌∷◌, ℕ, suc, ◌-◌, eqb, ltb, length, get_or, take, drop}
use Rattle.laws.specs.Choice.{pick}
use Rattle.lines.specs.Line.{space, index_of, up_to}

abbrev pub cr : ℕ
cr = 13

-- `=`
abbrev pub equals : ℕ
equals = 61

-- the last byte of a text is b
unfoldable pub ends_with : ℕ → List ℕ → Bool
ends_with b s = ltb 0 (length s) && eqb (get_or s (length s - 1) 0) b

-- how many bytes b a text begins with
unfoldable pub leading : ℕ → List ℕ → ℕ
leading b [] = 0
leading b (x ∷ s) = pick (eqb x b) (suc (leading b s)) 0

-- how many bytes b a text ends with
unfoldable pub trailing : ℕ → List ℕ → ℕ
trailing b [] = 0
trailing b (x ∷ s) = pick (eqb (trailing b s) (length s) && eqb x b) (suc (length s)) (trailing b s)

-- the line without the CR before its LF. Of two, the first is part of the value
unfoldable pub bare : List ℕ → List ℕ
bare line = pick (ends_with cr line) (take (length line - 1) line) line

-- what stands before the first `=`, and what stands after it
unfoldable pub before_equals : List ℕ → List ℕ
before_equals line = up_to equals (bare line)

unfoldable pub after_equals : List ℕ → List ℕ
after_equals line = drop (suc (index_of equals (bare line))) (bare line)

unfoldable pub has_equals : List ℕ → Bool
has_equals line = ltb (index_of equals (bare line)) (length (bare line))

-- the name of a line: what stands before the first `=` without the spaces that end it. A line without `=` has none
unfoldable pub name_in : List ℕ → List ℕ
name_in line =
    pick (has_equals line) (take (length (before_equals line) - trailing space (before_equals line)) (before_equals line)) []

-- the value of a line: what stands after the first `=` without the spaces that begin it
unfoldable pub value_in : List ℕ → List ℕ
value_in line = drop (leading space (after_equals line)) (after_equals line)

-- spaces stand beside the `=`
unfoldable pub is_spaced : List ℕ → Bool
is_spaced line = ltb 0 (trailing space (before_equals line)) || ltb 0 (leading space (after_equals line))
