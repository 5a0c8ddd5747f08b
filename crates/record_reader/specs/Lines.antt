-- The lines of a record that are not numbers, and what the reader of a key answers. Assumes nothing: these are definitions.
use Rattle.std.specs.Prelude.{Result, Ok, Err, List, Bool, true, false, ℕ, replicate}
use Prim.Native.String.{String}
use Rattle.laws.specs.Choice.{pick}
use Rattle.algorithms.specs.Algorithm.{name_of}
use Rattle.writing.specs.Text.{ascii}
use Rattle.record_text.specs.Text.{use_word}
use Rattle.forms.specs.Form.{Form, done, literal, line, Outcome, found, wrong, ◌>>=◌}
use Rattle.forms.specs.Decimals.{decimal}
use Rattle.forms.specs.Words.{one_of}
use Rattle.forms.specs.Hexes.{bytes}
use Rattle.reading.specs.declared.WrongAt.{WrongAt}
use Rattle.record_reader.specs.declared.KeyFound.{KeyFound}

-- SEND, RECV, BOTH
unfoldable pub use_form : Form ℕ
use_form = one_of 1 (use_word 1) (use_word 2) (use_word 3)

-- TEA5, TEA6, TEA7
unfoldable pub algorithm_form : Form ℕ
algorithm_form = one_of 5 (name_of 5) (name_of 6) (name_of 7)

-- the line of a network code, which only form 2 has
abbrev pub code_form : Bool → String → ℕ → Form ℕ
code_form two name high = pick two (line name (decimal 0 high)) (done 0)

-- a key, ended by LF
unfoldable pub key_form : Form (List ℕ)
key_form = do
  key ← bytes 24
  _ ← literal (ascii "\n")
  done key

-- a key and the place after it; or, once a byte is wrong, no key and the place of that byte
pub record KeyReading : Type 0 where
  pub good : Bool
  pub key : List ℕ
  pub place : ℕ

abbrev pub no_key : List ℕ
no_key = replicate 24 0

abbrev pub key_to : List ℕ → ℕ → KeyReading
key_to key p = record { good = true; key = key; place = p }

abbrev pub no_key_at : ℕ → KeyReading
no_key_at p = record { good = false; key = no_key; place = p }

abbrev pub key_answer : Outcome (List ℕ) → KeyReading
key_answer (found key p) = key_to key p
key_answer (wrong p) = no_key_at p

-- what the reader of a key answers, as that record
abbrev pub key_reading_of : Result KeyFound WrongAt → KeyReading
key_reading_of (Ok f) = key_to f.key f.place
key_reading_of (Err w) = no_key_at w.place
