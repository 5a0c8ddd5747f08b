-- The laws of a choice between two forms, where neither is done before the other. Assumes nothing.
use mathlib.Core.Path.{◌≡◌, refl}
use mathlib.Core.Logic.{◌⊎◌, inl, inr, ⊎_elim}
use mathlib.Core.List.{List, [], ◌∷◌}
use mathlib.Core.Bool.{Bool, true, false, ◌||◌, false≢true}
use Prim.Native.Nat.{ℕ, zero, suc}
use lib.ListN.{length}
use Rattle.laws.specs.Choice.{pick}
use Rattle.forms.specs.Form.{Form, done, next, literal, either, ◌>>=◌}
use Rattle.forms.specs.Words.{word}
use Rattle.forms.proofs.Forms.{Spells, Live}

-- a form all of whose texts have n bytes

abbrev pub Long : {A : Type 0} → ℕ → Form A → Type 0
Long zero (done v) = Unit
Long zero (next may then) = ⊥
Long (suc n) (done v) = ⊥
Long (suc n) (next may then) = (b : ℕ) → Long n (then b)

pub word-long : (w : List ℕ) (v : ℕ) → Long (length w) (word w v)
unfolding literal ◌>>=◌
word-long [] v = tt
word-long (c ∷ w) v = λ b. word-long w v

pub either-long : {A : Type 0} (n : ℕ) (f g : Form A) → Long n f → Long n g → Long n (either f g)
unfolding either
either-long zero (done v) g l m = tt
either-long zero (next may then) g l m = absurd l
either-long (suc n) (done v) g l m = absurd l
either-long (suc n) (next may then) (done v) l m = absurd m
either-long {A} (suc n) (next may then) (next may' then') l m =
    λ b. go b (may b) (may' b) (either-long n (then b) (then' b) (l b) (m b))
  where
    go : (b : ℕ) (x y : Bool) → Long n (either (then b) (then' b)) → Long n (pick x (pick y (either (then b) (then' b)) (then b)) (then' b))
    go b true true h = h
    go b true false h = l b
    go b false y h = m b

-- what is spelt

pub either-spells : {A : Type 0} (n : ℕ) (f g : Form A) → Long n f → Long n g → (v : A) (w : List ℕ) → Spells (either f g) v w
    → Spells f v w ⊎ Spells g v w
unfolding either
either-spells zero (done x) g l m v w h = inl h
either-spells zero (next may then) g l m v w h = absurd l
either-spells (suc n) (done x) g l m v w h = absurd l
either-spells (suc n) (next may then) (done x) l m v w h = absurd m
either-spells (suc n) (next may then) (next may' then') l m v [] h = absurd h
either-spells {A} (suc n) (next may then) (next may' then') l m v (b ∷ w) h =
    go (may b) (may' b) (either-spells n (then b) (then' b) (l b) (m b) v w) h.0 h.1
  where
    go : (x y : Bool) → (Spells (either (then b) (then' b)) v w → Spells (then b) v w ⊎ Spells (then' b) v w) → (x || y) ≡ true
        → Spells (pick x (pick y (either (then b) (then' b)) (then b)) (then' b)) v w
        → ((x ≡ true) × Spells (then b) v w) ⊎ ((y ≡ true) × Spells (then' b) v w)
    go true true rec e k = ⊎_elim (λ i. inl (refl, i)) (λ i. inr (refl, i)) (rec k)
    go true false rec e k = inl (refl, k)
    go false true rec e k = inr (refl, k)
    go false false rec e k = absurd (false≢true e)

pub either-live : {A : Type 0} (f g : Form A) → Live f → Live g → Live (either f g)
unfolding either
either-live (done v) g l m = tt
either-live (next may then) (done v) l m = tt
either-live {A} (next may then) (next may' then') l m =
    (l.0, rw l.1, λ b e. go b (may b) (may' b) refl refl e (either-live (then b) (then' b)))
  where
    go : (b : ℕ) (x y : Bool) → may b ≡ x → may' b ≡ y → (x || y) ≡ true → (Live (then b) → Live (then' b) → Live (either (then b) (then' b)))
        → Live (pick x (pick y (either (then b) (then' b)) (then b)) (then' b))
    go b true true i j e rec = rec (l.2 b i) (m.2 b j)
    go b true false i j e rec = l.2 b i
    go b false true i j e rec = m.2 b j
    go b false false i j e rec = absurd (false≢true e)
