-- Reading byte by byte, as the readers do it. Assumes nothing.
use mathlib.Core.Path.{◌≡◌, refl, sym, ap, subst, ◌∙◌}
use mathlib.Core.Logic.{⊎_elim}
use mathlib.Core.List.{List}
use mathlib.Core.Bool.{Bool, true, false, ◌||◌}
use Prim.Native.Nat.{ℕ, ◌+◌, ◌-◌, ◌*◌, ◌≤◌, ◌<◌}
use native.Mathlib.Numerals.{add-one}
use lib.Dec.{eqb, leb}
use lib.ListN.{length, get_or, drop, drop_of_length-le}
use lib.Seq.{drop-cons}
use Rattle.std.proofs.Common.{Result, Ok, Err}
use Rattle.std.specs.Result.{IsErrAnd}
use borrow.Author.Tests.{lt-ltb, le-ltb, eq-eqb, ne_eqb, le-leb, lt-leb}
use Rattle.laws.specs.Choice.{pick}
use Rattle.laws.proofs.Cases.{lt-or-le}
use Rattle.reading.specs.declared.Found.{Found}
use Rattle.reading.specs.declared.WrongAt.{WrongAt}
use Rattle.writing.specs.Text.{lf}
use Rattle.forms.specs.Form.{Form, done, next, Outcome, found, wrong, read_at, literal, ◌>>=◌}
use Rattle.forms.specs.Decimals.{may_follow, after}
use Rattle.forms.specs.Hexes.{hex_or, half_byte}
use Rattle.reading.specs.declared.Reading.{Reading}
use Rattle.reading.specs.Reading.{reading_of, good_to, wrong_at, onward, answer}
use Rattle.forms.proofs.Hexes.{no_digit, a-digit}
use Rattle.forms.proofs.Decimals.{after_is, or_right}
use Rattle.forms.proofs.Forms.{Spells, spelt, onto, both_read}

-- two tests of numbers that hold together are equal
pub leb-same : (a b c d : ℕ) → (a ≤ b → c ≤ d) → (b < a → d < c) → leb a b ≡ leb c d
leb-same a b c d f g = ⊎_elim (λ h. lt-leb a b h ∙ sym (lt-leb c d (g h))) (λ h. le-leb a b h ∙ sym (le-leb c d (f h))) (lt-or-le b a)

-- after what was read before

module _ {A : Type 0} (before : Reading) (f : Form A) (s : List ℕ) where
  pub on_both : {B : Type 0} (g : A → Form B) → onward before (f >>= g) s ≡ onto (onward before f s) (λ v q. read_at (g v) s q)
  unfolding onward
  on_both {B} g = go before.good
    where
      go : (t : Bool) → pick t (read_at (f >>= g) s before.place) (wrong before.place)
          ≡ onto (pick t (read_at f s before.place) (wrong before.place)) (λ v q. read_at (g v) s q)
      go true = both_read f g s before.place
      go false = refl

-- the same, of what a reader answered
module _ {A : Type 0} (f : Form A) (s : List ℕ) {r : Result Found WrongAt} where
  pub on-ok : {v : Found} → r ≡ Ok v → onward (reading_of r) f s ≡ read_at f s v.place
  unfolding onward
  on-ok e = ap (λ x. onward (reading_of x) f s) e

  pub on-err : {w : WrongAt} → r ≡ Err w → onward (reading_of r) f s ≡ wrong w.place
  unfolding onward
  on-err e = ap (λ x. onward (reading_of x) f s) e

-- the same, of three fields
module _ {A : Type 0} (before : Reading) (f : Form A) (s : List ℕ) where
  pub from-good : before.good ≡ true → onward (good_to before.value before.place) f s ≡ onward before f s
  unfolding onward
  from-good e = rw e

  pub from-wrong : before.good ≡ false → onward (wrong_at before.place) f s ≡ onward before f s
  unfolding onward
  from-wrong e = rw e

-- a wrong place that is passed on
pub passed-on : (r : Result Found WrongAt) {w : WrongAt} → IsErrAnd r (λ y. y ≡ w) → reading_of r ≡ wrong_at w.place
passed-on (Ok x) h = absurd h
passed-on (Err y) h = ap (λ (x : WrongAt). wrong_at x.place) h

-- from a place
pub on-at : {A : Type 0} (f : Form A) (s : List ℕ) {a : Reading} {v p : ℕ} → a ≡ good_to v p → onward a f s ≡ read_at f s p
unfolding onward
on-at f s e = ap (λ (x : Reading). onward x f s) e

-- one form after another, where the first gave a
pub on_then : {B : Type 0} (before : Reading) (f : Form ℕ) (g : ℕ → Form B) (s : List ℕ) {a : Reading} → a ≡ answer (onward before f s)
    → onward before (f >>= g) s ≡ onward a (g a.value) s
unfolding onward
on_then {B} before f g s {a} e =
    on_both before f s g ∙ go (onward before f s) ∙ ap (λ (x : Reading). onward x (g x.value) s) (sym e)
  where
    go : (o : Outcome ℕ) → onto o (λ v q. read_at (g v) s q) ≡ onward (answer o) (g (answer o).value) s
    go (found v q) = refl
    go (wrong q) = refl

-- the value is 0 or one that the form spells
pub on_value : (P : ℕ → Type 0) (before : Reading) (f : Form ℕ) (s : List ℕ) {a : Reading} → a ≡ answer (onward before f s) → P 0
    → ((v : ℕ) (w : List ℕ) → Spells f v w → P v) → P a.value
unfolding onward
on_value P before f s {a} e z h = subst (λ (x : Reading). P x.value) (sym e) (go before.good)
  where
    one : (o : Outcome ℕ) → read_at f s before.place ≡ o → P (answer o).value
    one (found v q) k = let r = spelt f s before.place v q k in h v r.text r.spells
    one (wrong q) k = z

    go : (t : Bool) → P (answer (pick t (read_at f s before.place) (wrong before.place))).value
    go true = one (read_at f s before.place) refl
    go false = z

-- one byte

pub step-done : {A : Type 0} (v : A) (s : List ℕ) (p : ℕ) → read_at (done v) s p ≡ found v p
unfolding read_at
step-done v s p = refl

module _ {A : Type 0} (may : ℕ → Bool) (then : ℕ → Form A) (s : List ℕ) (p : ℕ) where
  pub step_end : length s ≤ p → read_at (next may then) s p ≡ wrong p
  unfolding read_at
  step_end h = rw (le-ltb p (length s) h)

  pub step-yes : p < length s → may (get_or s p 0) ≡ true → read_at (next may then) s p ≡ read_at (then (get_or s p 0)) s (p + 1)
  unfolding read_at
  step-yes h e = rw (lt-ltb p (length s) h, e, add-one)

  pub step-no : p < length s → may (get_or s p 0) ≡ false → read_at (next may then) s p ≡ wrong p
  unfolding read_at
  step-no h e = rw (lt-ltb p (length s) h, e)

-- given bytes, of which i are read

module _ (bytes : List ℕ) (i : ℕ) (s : List ℕ) (p : ℕ) where
  pub literal-all : length bytes ≤ i → read_at (literal (drop i bytes)) s p ≡ found 0 p
  unfolding read_at literal
  literal-all h = rw (drop_of_length-le bytes h)

  pub literal-end : i < length bytes → length s ≤ p → read_at (literal (drop i bytes)) s p ≡ wrong p
  unfolding literal
  literal-end g h = rw (drop-cons bytes i 0 g) (step_end _ _ s p h)

  pub literal-no : i < length bytes → p < length s → (get_or s p 0 ≡ get_or bytes i 0 → ⊥) → read_at (literal (drop i bytes)) s p ≡ wrong p
  unfolding literal
  literal-no g h n = rw (drop-cons bytes i 0 g) (step-no _ _ s p h (ne_eqb _ _ n))

  pub literal-yes : i < length bytes → p < length s → get_or s p 0 ≡ get_or bytes i 0
      → read_at (literal (drop i bytes)) s p ≡ read_at (literal (drop (i + 1) bytes)) s (p + 1)
  unfolding literal
  literal-yes g h e = rw (add-one i, drop-cons bytes i 0 g) (step-yes _ _ s p h (eq-eqb _ _ e))

-- a hex digit, whose value or else 16 is v

module _ (s : List ℕ) (p v : ℕ) (h : p < length s) (e : v ≡ hex_or (get_or s p 0)) where
  pub half-no : v ≡ 16 → read_at half_byte s p ≡ wrong p
  half-no z = step-no _ _ s p h (no_digit _ _ e z)

  pub half-yes : (v ≡ 16 → ⊥) → read_at half_byte s p ≡ found v (p + 1)
  half-yes z =
      let d = a-digit _ _ e z in
      step-yes _ _ s p h d.0 ∙ step-done _ s (p + 1) ∙ ap (λ (n : ℕ). found n (p + 1)) (sym d.1)

-- a number, after digits of the value n

module _ (high n : ℕ) (s : List ℕ) (p : ℕ) where
  pub after-end : length s ≤ p → read_at (after high n) s p ≡ wrong p
  after-end h = rw (after_is high n) (step_end _ _ s p h)

  pub after-lf : p < length s → get_or s p 0 ≡ lf → read_at (after high n) s p ≡ found n (p + 1)
  unfolding may_follow
  after-lf h e =
      ap (λ (f : Form ℕ). read_at f s p) (after_is high n)
      ∙ step-yes _ _ s p h (ap (λ (b : ℕ). eqb b lf || may_follow high n b) e)
      ∙ ap (λ (b : ℕ). read_at (pick (may_follow high n b) (after high (n * 10 + (b - 48))) (done n)) s (p + 1)) e
      ∙ step-done n s (p + 1)

  pub after-no : p < length s → (get_or s p 0 ≡ lf → ⊥) → may_follow high n (get_or s p 0) ≡ false → read_at (after high n) s p ≡ wrong p
  after-no h z e = rw (after_is high n) (step-no _ _ s p h (rw (ne_eqb _ _ z) e))

  pub after-digit : p < length s → may_follow high n (get_or s p 0) ≡ true → read_at (after high n) s p ≡ read_at (after high (n * 10 + (get_or s p 0 - 48))) s (p + 1)
  after-digit h e =
      ap (λ (f : Form ℕ). read_at f s p) (after_is high n)
      ∙ step-yes _ _ s p h (ap (λ (t : Bool). eqb (get_or s p 0) lf || t) e ∙ or_right (eqb (get_or s p 0) lf))
      ∙ ap (λ (t : Bool). read_at (pick t (after high (n * 10 + (get_or s p 0 - 48))) (done n)) s (p + 1)) e
