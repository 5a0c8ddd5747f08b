-- What the theorems call a block. Assumes nothing: this is a definition.
use Rattle.std.specs.Prelude.{◌≡◌, List, ℕ, ◌<◌, length, get_or}

-- 32 bytes
pub record Block (b : List ℕ) : Type 0 where
  pub long : length b ≡ 32
  pub bytes : (k : ℕ) → get_or b k 0 < 256
