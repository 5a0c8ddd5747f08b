-- A case of the program `vectors`, by its line: algorithm, key, initial value, start, length, skip and buffer. That the readable lines are
-- those of the good cases, one for each, is stated in proofs/Promises.antt and proofs/GoodLines.antt.
-- Assumes nothing: these are definitions.
use Rattle.std.specs.Prelude.{Bool, true, ◌&&◌, List, ◌∷◌, ◌++◌, ◌≡◌, ℕ, ◌<◌, ◌≤◌, length, get_or}
use Rattle.refusals.specs.Numbers.{done}
use Rattle.writing.specs.Text.{digits, hex_text}
use Rattle.bench.specs.Bench.{keyed_refusal}
use Rattle.lines.specs.Line.{space, after_spaces, part}
use Rattle.line_values.specs.Parts.{largest, number_of, are_bytes, bytes_of}

-- in the order of the parts; `bits` is the length
pub record Case : Type 0 where
  pub algorithm : ℕ
  pub key : List ℕ
  pub iv : List ℕ
  pub start : ℕ
  pub bits : ℕ
  pub skip : ℕ
  pub buffer : List ℕ

-- a part, a space, and the parts after it
abbrev pub joined : List ℕ → List ℕ → List ℕ
joined text rest = text ++ (space ∷ rest)

-- the line of a case
unfoldable pub case_line : Case → List ℕ
case_line c =
    joined (digits c.algorithm)
    (joined (hex_text c.key)
    (joined (hex_text c.iv)
    (joined (digits c.start)
    (joined (digits c.bits)
    (joined (digits c.skip)
    (hex_text c.buffer))))))

-- numbers of 64 bits, and bytes
abbrev pub Narrow : ℕ → Type 0
Narrow n = n ≤ largest

abbrev pub SomeBytes : List ℕ → Type 0
SomeBytes l = (0 < length l) × ((i : ℕ) → get_or l i 0 < 256)

-- what a line can say
pub record GoodCase (c : Case) : Type 0 where
  pub algorithm : Narrow c.algorithm
  pub key : SomeBytes c.key
  pub iv : SomeBytes c.iv
  pub start : Narrow c.start
  pub bits : Narrow c.bits
  pub skip : Narrow c.skip
  pub buffer : SomeBytes c.buffer

-- the last part: what follows six spaces
abbrev pub last_part : List ℕ → List ℕ
last_part line = after_spaces 6 line

abbrev pub is_number : ℕ → List ℕ → Bool
is_number k line = (number_of (part k line)).good

unfoldable pub numbers_readable : List ℕ → Bool
numbers_readable line = is_number 0 line && (is_number 3 line && (is_number 4 line && is_number 5 line))

abbrev pub bytes_readable : List ℕ → Bool
bytes_readable line = are_bytes (part 1 line) && (are_bytes (part 2 line) && are_bytes (last_part line))

-- The last part is never empty, and a space in it is no digit: so a line has neither fewer parts than seven nor more.
unfoldable pub is_readable : List ℕ → Bool
is_readable line = numbers_readable line && bytes_readable line

-- what a readable line says
unfoldable pub case_of : List ℕ → Case
case_of line =
    record {
      algorithm = (number_of (part 0 line)).value;
      key = bytes_of (part 1 line);
      iv = bytes_of (part 2 line);
      start = (number_of (part 3 line)).value;
      bits = (number_of (part 4 line)).value;
      skip = (number_of (part 5 line)).value;
      buffer = bytes_of (last_part line);
    }

-- as the bench call refuses, with a start and a skip
abbrev pub refusal_of : Case → ℕ
refusal_of c = keyed_refusal c.algorithm (length c.key) (length c.iv) (length c.buffer) c.start c.bits c.skip

-- the line is readable, and its case is not refused
pub record Accepted (line : List ℕ) : Type 0 where
  pub readable : is_readable line ≡ true
  pub passed : refusal_of (case_of line) ≡ done
