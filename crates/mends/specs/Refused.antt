-- When a damaged sheet is refused (document 02, [12]), said of its lines: 25 and 26. Assumes nothing: these are definitions.
use Rattle.std.specs.Prelude.{Bool, true, false, List, [], ◌∷◌, ◌++◌, ◌≡◌, ℕ, ◌<◌, ◌≤◌, length, get_or}
use Rattle.algorithms.specs.Algorithm.{name_of}
use Rattle.fields.specs.Fields.{is_algorithm, is_use}
use Rattle.writing.specs.Text.{ascii, lf, digits, hex_text}
use Rattle.record_text.specs.Text.{use_word}
use Rattle.line_parts.specs.Line.{name_in, value_in}
use Rattle.line_names.specs.Names.{name_text, number_in, has_name}
use Rattle.mended_text.specs.Text.{mended_value}
use Rattle.sheet_faults.specs.Sheet.{lines_of, is_form_two, most_bytes}

-- the name of the line at a place, counted from 0
abbrev pub name_at : List (List ℕ) → ℕ → List ℕ
name_at lines place = name_in (get_or lines place [])

-- some line has a name
pub record HasLine (lines : List (List ℕ)) (name : List ℕ) : Type 0 where
  pub place : ℕ
  pub within : place < length lines
  pub is : name_at lines place ≡ name

-- a sheet is of form 2 if some line has the name `form`, and otherwise of form 1
abbrev pub OfWhichForm : Bool → List (List ℕ) → Type 0
OfWhichForm true lines = HasLine lines (ascii "form")
OfWhichForm false lines = HasLine lines (ascii "form") → ⊥

-- a name of the form that no line has
pub record Missing (two : Bool) (lines : List (List ℕ)) : Type 0 where
  pub number : ℕ
  pub wanted : has_name two number ≡ true
  pub none : HasLine lines (name_text number) → ⊥

-- two lines of one name
pub record Doubled (lines : List (List ℕ)) : Type 0 where
  pub first : ℕ
  pub second : ℕ
  pub apart : first < second
  pub within : second < length lines
  pub same : name_at lines first ≡ name_at lines second

-- a line whose name is none of the form
pub record Unknown (two : Bool) (lines : List (List ℕ)) : Type 0 where
  pub place : ℕ
  pub within : place < length lines
  pub none : (number : ℕ) → has_name two number ≡ true → name_at lines place ≡ name_text number → ⊥

-- 25: a longer text, a last line without its LF, or a name that is missing, doubled or unknown for the form
pub data BadSheet (text : List ℕ) : Type 0 where
  long : most_bytes < length text → BadSheet text
  unended : ((front : List ℕ) → text ≡ front ++ (lf ∷ []) → ⊥) → BadSheet text
  missing : Missing (is_form_two (lines_of text)) (lines_of text) → BadSheet text
  doubled : Doubled (lines_of text) → BadSheet text
  unknown : Unknown (is_form_two (lines_of text)) (lines_of text) → BadSheet text

-- a value is the text of something good
pub record TextOf {A : Type 0} (good : A → Type 0) (text : A → List ℕ) (value : List ℕ) : Type 0 where
  pub thing : A
  pub fits : good thing
  pub is : value ≡ text thing

abbrev pub NumberIn : ℕ → ℕ → List ℕ → Type 0
NumberIn low high value = TextOf (λ n. (low ≤ n) × (n ≤ high)) digits value

abbrev pub KeyOf : List ℕ → Type 0
KeyOf value = TextOf (λ key. (length key ≡ 24) × ((i : ℕ) → get_or key i 0 < 256)) hex_text value

-- a value in the form and range that the name of number k has in a record of form 2
abbrev pub GoodValue : ℕ → List ℕ → Type 0
GoodValue k =
    get_or
    ((λ value. value ≡ ascii "2")
    ∷ NumberIn 1 32
    ∷ NumberIn 0 65535
    ∷ TextOf (λ a. is_algorithm a ≡ true) name_of
    ∷ TextOf (λ u. is_use u ≡ true) use_word
    ∷ NumberIn 0 1
    ∷ NumberIn 0 79
    ∷ NumberIn 0 1023
    ∷ NumberIn 0 16383
    ∷ KeyOf
    ∷ [])
    k
    (λ value. ⊥)

-- 26: a line whose value, mended, is still out of form or range
pub record BadValue (lines : List (List ℕ)) : Type 0 where
  pub place : ℕ
  pub within : place < length lines
  pub none : let line = get_or lines place [] in GoodValue (number_in line) (mended_value (number_in line) (value_in line)) → ⊥
