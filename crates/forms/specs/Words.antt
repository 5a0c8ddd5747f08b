-- Words, ended by LF. Assumes nothing: these are definitions.
use Rattle.std.specs.Prelude.{List, ℕ, ◌+◌}
use Rattle.writing.specs.Text.{ascii}
use Rattle.forms.specs.Form.{Form, done, named, either, ◌>>=◌}

-- a word for a value
abbrev pub word : List ℕ → ℕ → Form ℕ
word w v = named w (done v)

-- one of three words, for a value and the two that follow it; and LF
unfoldable pub one_of : ℕ → List ℕ → List ℕ → List ℕ → Form ℕ
one_of first a b c = do
  v ← either (word a first) (either (word b (first + 1)) (word c (first + 2)))
  word (ascii "\n") v
