-- Reading by one form or by another, as the readers do it: each from the same place. Assumes nothing.
use mathlib.Core.Path.{◌≡◌, refl, ap, ◌∙◌}
use mathlib.Core.List.{List}
use mathlib.Core.Bool.{Bool, true, false, ◌&&◌, ◌||◌}
use Prim.Native.Nat.{ℕ, zero, suc, ◌+◌, ◌≤◌}
use native.Mathlib.Omega.{arith}
use lib.Dec.{ltb}
use lib.ListN.{length, get_or}
use borrow.Author.Tests.{lt-ltb, le-ltb}
use Rattle.laws.specs.Choice.{pick}
use Rattle.forms.specs.Form.{Form, done, next, Outcome, found, wrong, stands, read_at, either}
use Rattle.forms.specs.Words.{word}
use Rattle.reading.specs.declared.Reading.{Reading}
use Rattle.reading.specs.Reading.{onward, answer, wrong_at, further}
use Rattle.forms.proofs.Choices.{Long, word-long}
use Rattle.forms.proofs.Words.{long, last-long}

-- where reading stops lies behind where it began

abbrev Past : {A : Type 0} → ℕ → Outcome A → Type 0
Past p (found v q) = Unit
Past p (wrong q) = p ≤ q

past : {A : Type 0} (f : Form A) (s : List ℕ) (p k : ℕ) → k ≤ p → Past k (read_at f s p)
unfolding read_at
past (done v) s p k h = tt
past {A} (next may then) s p k h = go (stands may s p) (past (then (get_or s p 0)) s (suc p) k (omega arith))
  where
    go : (t : Bool) → Past k (read_at (then (get_or s p 0)) s (suc p)) → Past k (pick t (read_at (then (get_or s p 0)) s (suc p)) (wrong p))
    go true l = l
    go false l = h

-- what is read

self : (a : Reading) (t : Bool) → a ≡ pick t a a
self a true = refl
self a false = refl

further-first : (o : Outcome ℕ) (p : ℕ) → Past (suc p) o → answer o ≡ further (answer o) (wrong_at p)
further-first (found v q) p h = refl
further-first (wrong q) p h = rw (le-ltb q p (omega arith))

further-second : (o : Outcome ℕ) (p : ℕ) → Past (suc p) o → answer o ≡ further (wrong_at p) (answer o)
further-second (found v q) p h = refl
further-second (wrong q) p h = rw (lt-ltb p q (omega arith))

either-read : (n : ℕ) (f g : Form ℕ) → Long n f → Long n g → (s : List ℕ) (p : ℕ)
    → answer (read_at (either f g) s p) ≡ further (answer (read_at f s p)) (answer (read_at g s p))
unfolding read_at either
either-read zero (done v) g l m s p = refl
either-read zero (next may then) g l m s p = absurd l
either-read (suc n) (done v) g l m s p = absurd l
either-read (suc n) (next may then) (done v) l m s p = absurd m
either-read (suc n) (next may then) (next may' then') l m s p =
    let c = get_or s p 0 in
    go (then c) (then' c) (ltb p (length s)) (may c) (may' c) (either-read n (then c) (then' c) (l c) (m c) s (suc p))
  where
    go : (one two : Form ℕ) (t x y : Bool)
        → answer (read_at (either one two) s (suc p)) ≡ further (answer (read_at one s (suc p))) (answer (read_at two s (suc p)))
        → answer (pick (t && (x || y)) (read_at (pick x (pick y (either one two) one) two) s (suc p)) (wrong p))
        ≡ further (answer (pick (t && x) (read_at one s (suc p)) (wrong p))) (answer (pick (t && y) (read_at two s (suc p)) (wrong p)))
    go one two true true true h = h
    go one two true true false h = further-first (read_at one s (suc p)) p (past one s (suc p) (suc p) (omega arith))
    go one two true false true h = further-second (read_at two s (suc p)) p (past two s (suc p) (suc p) (omega arith))
    go one two true false false h = self (wrong_at p) (ltb p p)
    go one two false x y h = self (wrong_at p) (ltb p p)

-- the same after what was read before
either-onward : (n : ℕ) (f g : Form ℕ) → Long n f → Long n g → (before : Reading) (s : List ℕ)
    → answer (onward before (either f g) s) ≡ further (answer (onward before f s)) (answer (onward before g s))
unfolding onward
either-onward n f g l m before s = go before.good
  where
    go : (t : Bool) → answer (pick t (read_at (either f g) s before.place) (wrong before.place))
        ≡ further (answer (pick t (read_at f s before.place) (wrong before.place))) (answer (pick t (read_at g s before.place) (wrong before.place)))
    go true = either-read n f g l m s before.place
    go false = self (wrong_at before.place) (ltb before.place before.place)

-- three words of one length: what came furthest counts
module _ (a b c : List ℕ) (first : ℕ) (two : length b ≡ length a) (three : length c ≡ length a) where
  pub furthest : (before : Reading) (s : List ℕ)
      → answer (onward before (either (word a first) (either (word b (first + 1)) (word c (first + 2)))) s)
      ≡ further (answer (onward before (word a first) s)) (further (answer (onward before (word b (first + 1)) s)) (answer (onward before (word c (first + 2)) s)))
  furthest before s =
      let of = long a b c first two three in
      either-onward (length a) (word a first) _ (word-long a first) (last-long a b c first two three) before s
      ∙ ap (further (answer (onward before (word a first) s)))
      (either-onward (length a) (word b (first + 1)) (word c (first + 2)) (of b (first + 1) two) (of c (first + 2) three) before s)
