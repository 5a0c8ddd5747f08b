-- What the next byte makes of a log, by the tests of what is read so far. Assumes nothing.
use mathlib.Core.Bool.{Bool, true, false}
use mathlib.Core.Path.{◌≡◌, ap, ◌∙◌}
use Prim.Native.Nat.{ℕ}
use Rattle.laws.specs.Choice.{pick}
use Rattle.call_log.specs.Fed.{Fed, fed_to, ended, ends_line, in_line, fed_byte}

-- a choice by a test whose answer is known
pub picked : {A : Type 0} (x y : A) {t : Bool} (u : Bool) → t ≡ u → pick t x y ≡ pick u x y
picked x y u e = ap (λ (v : Bool). pick v x y) e

module _ (f : Fed) (b : ℕ) where
  pub byte-wrong : f.month.good ≡ false → fed_byte f b ≡ f
  unfolding fed_byte
  byte-wrong g =
      picked (pick (ends_line f.month b) (ended f.month f.figures) (fed_to (in_line f.month b) f.figures)) f false g

  pub byte-ends : f.month.good ≡ true → ends_line f.month b ≡ true → fed_byte f b ≡ ended f.month f.figures
  unfolding fed_byte
  byte-ends g e =
      picked (pick (ends_line f.month b) (ended f.month f.figures) (fed_to (in_line f.month b) f.figures)) f true g
      ∙ picked (ended f.month f.figures) (fed_to (in_line f.month b) f.figures) true e

  pub byte-in : f.month.good ≡ true → ends_line f.month b ≡ false → fed_byte f b ≡ fed_to (in_line f.month b) f.figures
  unfolding fed_byte
  byte-in g e =
      picked (pick (ends_line f.month b) (ended f.month f.figures) (fed_to (in_line f.month b) f.figures)) f true g
      ∙ picked (ended f.month f.figures) (fed_to (in_line f.month b) f.figures) false e
