-- What a good record is (document 01, "Key records"; form 2: request [6] of document 02): the text of a number, fields and a key that are within the slot ranges. Nothing here
-- parses. What reading and writing do is said in these terms by the crate `records`. Assumes nothing: these are definitions.
use Rattle.std.specs.Prelude.{List, [], ◌++◌, ◌≡◌, Bool, true, false, ℕ, ◌<◌, ◌≤◌, eqb, length, get_or}
use Prim.Native.String.{String}
use Rattle.laws.specs.Choice.{pick}
use Rattle.algorithms.specs.Algorithm.{name_of}
use Rattle.fields.specs.Fields.{is_slot_number, is_algorithm, is_use, is_side, is_place}
use Rattle.fields.specs.declared.Fields.{Fields}
use Rattle.writing.specs.Text.{ascii, digits, hex_text, line_text}

-- 1 send, 2 receive, 3 both
unfoldable pub use_word : ℕ → List ℕ
use_word u = pick (eqb u 1) (ascii "SEND") (pick (eqb u 2) (ascii "RECV") (ascii "BOTH"))

-- the line of a network code, which only form 2 has
abbrev pub code_text : Bool → String → ℕ → List ℕ
code_text two name n = pick two (line_text name (digits n)) []

-- the lines from the side on
abbrev pub last_lines : Bool → Fields → List ℕ → List ℕ
last_lines two f key =
    line_text "side=" (digits f.side)
    ++ (line_text "place=" (digits f.place)
    ++ (code_text two "mcc=" f.mcc
    ++ (code_text two "mnc=" f.mnc
    ++ line_text "key=" (hex_text key))))

-- the lines that both forms have, and in form 2 those of the network
unfoldable pub lines_text : Bool → ℕ → Fields → List ℕ → List ℕ
lines_text two number f key =
    line_text "number=" (digits number)
    ++ (line_text "version=" (digits f.version)
    ++ (line_text "alg=" (name_of f.algorithm)
    ++ (line_text "use=" (use_word f.usage)
    ++ last_lines two f key)))

-- a record of form 2, whose first line says so, or of form 1
unfoldable pub form_text : Bool → ℕ → Fields → List ℕ → List ℕ
form_text true number f key = ascii "form=2\n" ++ lines_text true number f key
form_text false number f key = lines_text false number f key

-- as it is written: form 2
abbrev pub record_text : ℕ → Fields → List ℕ → List ℕ
record_text number f key = form_text true number f key

-- a network code of form 2 is in its range; form 1 has none
abbrev pub InCode : Bool → ℕ → ℕ → Type 0
InCode true high n = n ≤ high
InCode false high n = n ≡ 0

-- within the slot ranges; a version is 16 bits, a key 24 bytes
pub record Good (two : Bool) (number : ℕ) (f : Fields) (key : List ℕ) : Type 0 where
  pub slot : is_slot_number number ≡ true
  pub version : f.version ≤ 65535
  pub algorithm : is_algorithm f.algorithm ≡ true
  pub usage : is_use f.usage ≡ true
  pub side : is_side f.side ≡ true
  pub place : is_place f.place ≡ true
  pub mcc : InCode two 1023 f.mcc
  pub mnc : InCode two 16383 f.mnc
  pub size : length key ≡ 24
  pub bytes : (i : ℕ) → get_or key i 0 < 256
