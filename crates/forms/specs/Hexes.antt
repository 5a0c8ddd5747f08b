-- Bytes by two lower-case hex digits each. Assumes nothing: these are definitions.
use Rattle.std.specs.Prelude.{List, [], ◌∷◌, Bool, ◌||◌, ℕ, zero, suc, ◌+◌, ◌-◌, ◌*◌, leb}
use Rattle.laws.specs.Choice.{pick}
use Rattle.fields.specs.Fields.{between}
use Rattle.forms.specs.Form.{Form, done, next, ◌>>=◌}

-- 0 to 9, a to f
unfoldable pub is_hex : ℕ → Bool
is_hex c = between 48 c 57 || between 97 c 102

unfoldable pub hex_value : ℕ → ℕ
hex_value c = pick (leb c 57) (c - 48) (c - 87)

-- a digit's value, or 16
unfoldable pub hex_or : ℕ → ℕ
hex_or c = pick (is_hex c) (hex_value c) 16

abbrev pub half_byte : Form ℕ
half_byte = next is_hex (λ c. done (hex_value c))

unfoldable pub byte : Form ℕ
byte = do
  high ← half_byte
  low ← half_byte
  done (high * 16 + low)

-- n bytes
unfoldable pub bytes : ℕ → Form (List ℕ)
bytes zero = done []
bytes (suc n) = do
  b ← byte
  more ← bytes n
  done (b ∷ more)
