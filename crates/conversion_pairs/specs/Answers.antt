-- What the code takes and answers, beside the numbers of specs/Pairs.antt. Assumes nothing: these are definitions.
use Rattle.std.specs.Prelude.{Option, Some, None, ℕ, suc}
use Rattle.conversion_pairs.specs.declared.Side.{Side}
use Rattle.conversion_pairs.specs.declared.Side.TheVariants.{Before, After}
use Rattle.conversion_pairs.specs.Pairs.{before_side, after_side}

-- the side, as the definitions number it
abbrev pub side_of : Side → ℕ
side_of Before = before_side
side_of After = after_side

-- the place of a pair that is counted from 0, counted from 1; 0 where there is none
abbrev pub place_of : Option ℕ → ℕ
place_of None = 0
place_of (Some i) = suc i
