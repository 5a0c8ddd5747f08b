-- What the lines of a damaged sheet say, in whatever way they are written (document 02, [12]): decimal numbers by their digits, words, and the
-- digits of a key in either case. Assumes nothing: these are definitions.
use Rattle.std.specs.Prelude.{Bool, true, ◌&&◌, ◌||◌, List, [], ◌∷◌, ◌++◌, ◌≡◌, ℕ, ◌+◌, ◌-◌, ◌*◌, ◌/◌, ◌%◌, ◌<◌, eqb, leb, length, get_or}
use Rattle.laws.specs.Choice.{pick}
use Rattle.algorithms.specs.Algorithm.{name_of}
use Rattle.fields.specs.Fields.{between}
use Rattle.fields.specs.declared.Fields.{Fields}
use Rattle.writing.specs.Text.{lf}
use Rattle.record_text.specs.Text.{use_word}

-- the number that digits have in decimal, after those of n
unfoldable pub decimal_from : ℕ → List ℕ → ℕ
decimal_from n [] = n
decimal_from n (b ∷ s) = decimal_from (n * 10 + (b - 48)) s

unfoldable pub all_decimal : List ℕ → Bool
all_decimal [] = true
all_decimal (b ∷ s) = between 48 b 57 && all_decimal s

pub record SaysNumber (n : ℕ) (value : List ℕ) : Type 0 where
  pub some : 0 < length value
  pub digits : all_decimal value ≡ true
  pub is : decimal_from 0 value ≡ n

-- a hex digit of either case, and what it stands for
unfoldable pub is_hex_digit : ℕ → Bool
is_hex_digit b = between 48 b 57 || (between 65 b 70 || between 97 b 102)

unfoldable pub hex_digit_of : ℕ → ℕ
hex_digit_of b = pick (leb b 57) (b - 48) (pick (leb b 70) (b - 55) (b - 87))

-- half byte i of a key, the high half of a byte first
unfoldable pub half_byte_of : List ℕ → ℕ → ℕ
half_byte_of key i = pick (eqb (i % 2) 0) (get_or key (i / 2) 0 / 16) (get_or key (i / 2) 0 % 16)

pub record SaysKey (key : List ℕ) (value : List ℕ) : Type 0 where
  pub size : length value ≡ 48
  pub digits : (i : ℕ) → i < 48 → is_hex_digit (get_or value i 0) ≡ true
  pub same : (i : ℕ) → i < 48 → hex_digit_of (get_or value i 0) ≡ half_byte_of key i

-- the value under the name of number k says what the record has
abbrev pub SaysIt : ℕ → Fields → List ℕ → ℕ → List ℕ → Type 0
SaysIt number f key k =
    get_or
    (SaysNumber 2
    ∷ SaysNumber number
    ∷ SaysNumber f.version
    ∷ (λ value. value ≡ name_of f.algorithm)
    ∷ (λ value. value ≡ use_word f.usage)
    ∷ SaysNumber f.side
    ∷ SaysNumber f.place
    ∷ SaysNumber f.mcc
    ∷ SaysNumber f.mnc
    ∷ SaysKey key
    ∷ [])
    k
    (λ value. ⊥)

-- lines, each ended by LF
unfoldable pub joined_lines : List (List ℕ) → List ℕ
joined_lines [] = []
joined_lines (line ∷ lines) = line ++ (lf ∷ joined_lines lines)
