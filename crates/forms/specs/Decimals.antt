-- Decimal numbers without leading zeros, ended by LF. Assumes nothing: these are definitions.
use Rattle.std.specs.Prelude.{Bool, ◌&&◌, ◌||◌, ℕ, zero, suc, ◌+◌, ◌-◌, ◌*◌, eqb, ltb, leb}
use Rattle.laws.specs.Choice.{pick}
use Rattle.fields.specs.Fields.{between}
use Rattle.writing.specs.Text.{lf}
use Rattle.forms.specs.Form.{Form, done, next}

-- 48 is the digit 0
abbrev pub is_digit : ℕ → Bool
is_digit b = between 48 b 57

-- a digit that may begin a number from low to high. (Low is at most 1, or high is one digit.)
unfoldable pub may_begin : ℕ → ℕ → ℕ → Bool
may_begin low high b = is_digit b && between low (b - 48) high

-- a digit that may follow digits of the value n: none follows a zero
unfoldable pub may_follow : ℕ → ℕ → ℕ → Bool
may_follow high n b = is_digit b && (ltb 0 n && leb (n * 10 + (b - 48)) high)

-- after digits of the value n: another digit, or LF. The first argument only bounds how many there are
unfoldable pub after_within : ℕ → ℕ → ℕ → Form ℕ
after_within zero high n = next (λ b. eqb b lf || may_follow high n b) (λ b. done n)
after_within (suc k) high n =
    next (λ b. eqb b lf || may_follow high n b)
    (λ b. pick (may_follow high n b) (after_within k high (n * 10 + (b - 48))) (done n))

unfoldable pub after : ℕ → ℕ → Form ℕ
after high n = after_within (high - n) high n

-- a number from low to high
unfoldable pub decimal : ℕ → ℕ → Form ℕ
decimal low high = next (may_begin low high) (λ b. after high (b - 48))
