-- Texts as lists of bytes: decimal and hex digits, and lines. Assumes nothing: these are definitions.
use Rattle.std.specs.Prelude.{List, [], ◌∷◌, ◌++◌, ℕ, zero, suc, ◌+◌, ◌/◌, ◌%◌, ltb}
use Prim.Native.Char.{code}
use Prim.Native.String.{String}
use Prim.Native.String as string
use Rattle.laws.specs.Choice.{pick}

-- the bytes of a text
abbrev pub ascii : String → List ℕ
ascii string.[] = []
ascii (string.◌∷◌ c s) = code c ∷ ascii s

-- LF, which ends a line
abbrev pub lf : ℕ
lf = 10

-- decimal digits without leading zeros; 48 is the digit 0. The first argument only bounds how many there are
unfoldable pub digits_within : ℕ → ℕ → List ℕ
digits_within zero n = (48 + n) ∷ []
digits_within (suc k) n = pick (ltb n 10) ((48 + n) ∷ []) (digits_within k (n / 10) ++ ((48 + n % 10) ∷ []))

unfoldable pub digits : ℕ → List ℕ
digits n = digits_within n n

-- a half byte as a lower-case digit: 48 is 0, and 97 is a
unfoldable pub hex_digit : ℕ → ℕ
hex_digit d = pick (ltb d 10) (48 + d) (87 + d)

-- each byte by two digits
unfoldable pub hex_text : List ℕ → List ℕ
hex_text [] = []
hex_text (b ∷ bytes) = hex_digit (b / 16) ∷ hex_digit (b % 16) ∷ hex_text bytes

-- a line: its name, the value's text, LF
abbrev pub line_text : String → List ℕ → List ℕ
line_text name value = ascii name ++ (value ++ (lf ∷ []))

-- a name and the value's text
abbrev pub item : String → List ℕ → List ℕ
item name value = ascii name ++ value
