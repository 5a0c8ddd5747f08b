-- What the readers answer, each after what was read before it. Assumes nothing: these are definitions.
use Rattle.std.specs.Prelude.{Result, Ok, Err, List, true, false, ◌||◌, ℕ, ltb}
use Rattle.laws.specs.Choice.{pick}
use Rattle.reading.specs.declared.Reading.{Reading}
use Rattle.reading.specs.declared.Found.{Found}
use Rattle.reading.specs.declared.WrongAt.{WrongAt}
use Rattle.forms.specs.Form.{Form, Outcome, found, wrong, read_at}

-- the text s read on by a form; where what was read before is wrong, so is this
unfoldable pub onward : {A : Type 0} → Reading → Form A → List ℕ → Outcome A
onward before f s = pick before.good (read_at f s before.place) (wrong before.place)

abbrev pub good_to : ℕ → ℕ → Reading
good_to v p = record { good = true; value = v; place = p }

abbrev pub wrong_at : ℕ → Reading
wrong_at p = record { good = false; value = 0; place = p }

-- what a reader answers, as that record
abbrev pub reading_of : Result Found WrongAt → Reading
reading_of (Ok f) = good_to f.value f.place
reading_of (Err w) = wrong_at w.place

abbrev pub answer : Outcome ℕ → Reading
answer (found v p) = good_to v p
answer (wrong p) = wrong_at p

-- of two readings from one place: the good one, or else the one that came further
abbrev pub further : Reading → Reading → Reading
further a b = pick a.good a (pick (b.good || ltb a.place b.place) b a)
