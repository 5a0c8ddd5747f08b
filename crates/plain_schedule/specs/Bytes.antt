-- Words that are held as four bytes each, the first highest. Assumes nothing: these are definitions.
use Rattle.std.specs.Prelude.{List, [], ℕ, get_or}
use Rattle.laws.specs.Lists.{tabulate}
use Rattle.words.specs.Words.{join}

-- the word of four bytes
unfoldable pub word_of : List ℕ → ℕ
word_of x = join (get_or x 0 0) (get_or x 1 0) (get_or x 2 0) (get_or x 3 0)

-- the words of a schedule
unfoldable pub words_of : List (List ℕ) → List ℕ
words_of w = tabulate (λ i. word_of (get_or w i [])) 0 120
