-- A log fed byte by byte: two parts one after the other are the whole. Assumes nothing.
use mathlib.Core.List.{List, [], ◌∷◌, ◌++◌}
use mathlib.Core.Path.{◌≡◌, refl}
use Prim.Native.Nat.{ℕ, ◌+◌, ◌<◌, ◌≤◌}
use native.Mathlib.Numerals.{add-one}
use lib.ListN.{length, get_or, drop, drop_of_length-le}
use lib.Seq.{drop-cons}
use Rattle.call_log.specs.Fed.{Fed, fed_byte, fed}

-- to feed x and then y is to feed the two joined
pub fed-append : (f : Fed) (x y : List ℕ) → fed f (x ++ y) ≡ fed (fed f x) y
unfolding fed
fed-append f [] y = refl
fed-append f (b ∷ x) y = fed-append (fed_byte f b) x y

module _ (f : Fed) (block : List ℕ) (i : ℕ) where
  pub fed-next : i < length block → fed f (drop i block) ≡ fed (fed_byte f (get_or block i 0)) (drop (i + 1) block)
  unfolding fed
  fed-next h = rw (add-one i, drop-cons block i 0 h)

  pub fed-over : length block ≤ i → fed f (drop i block) ≡ f
  unfolding fed
  fed-over h = rw (drop_of_length-le block h)
