-- What the theorems on repeated blocks speak of. Assumes nothing: these are definitions.
use Rattle.std.specs.Prelude.{◌≡◌, List, ℕ, ◌+◌, ◌*◌, ◌<◌, ◌≤◌, length, get_or}

abbrev pub Bytes : List ℕ → Type 0
Bytes l = (k : ℕ) → get_or l k 0 < 256

-- ten bytes
pub record InitialValue (iv : List ℕ) : Type 0 where
  pub long : length iv ≡ 10
  pub bytes : Bytes iv

-- block r is whole: its 256 bits are all among the 8,288 that a call can give, so that r is at most 31
abbrev pub Whole : ℕ → Type 0
Whole r = 256 * r + 256 ≤ 8288

-- blocks r and q of the keystream k differ: in this bit
pub record Differ (k : ℕ → ℕ) (r q : ℕ) : Type 0 where
  pub bit : ℕ
  pub inside : bit < 256
  pub apart : k (256 * r + bit) ≡ k (256 * q + bit) → ⊥
