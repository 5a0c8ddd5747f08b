-- The laws of words: `use_form` spells the uses 1, 2, 3 by their words, and `algorithm_form` the algorithms 5, 6, 7 by their names.
-- Assumes nothing.
use mathlib.Core.Path.{◌≡◌, sym, ap, subst, ◌∙◌}
use mathlib.Core.Logic.{◌⊎◌, inl, inr, ⊎_elim}
use mathlib.Core.List.{List, [], ◌∷◌, ◌++◌}
use mathlib.Core.Bool.{true}
use Prim.Native.Nat.{ℕ, ◌+◌}
use native.Mathlib.Omega.{arith}
use lib.ListN.{length}
use Rattle.laws.proofs.Cases.{eq-or-ne}
use Rattle.fields.specs.Fields.{between}
use Rattle.fields.proofs.Ranges.{between-low, between-high}
use Rattle.writing.specs.Text.{ascii, lf}
use Rattle.forms.specs.Form.{Form, done, literal, either}
use Rattle.forms.specs.Words.{word, one_of}
use Rattle.forms.proofs.Forms.{Spells, Live, Means, parts, made, both-live, literal-is, literal-live}
use Rattle.forms.proofs.Choices.{Long, word-long, either-long, either-spells, either-live}
use Rattle.forms.proofs.Decimals.{between_is}

word-is : (t : List ℕ) (u v : ℕ) (w : List ℕ) → Spells (word t u) v w → (u ≡ v) × (w ≡ t)
word-is t u v w h =
    let m = made (literal t) (λ _. u) v w h in
    (m.is, literal-is t w m.value m.spells)

word_live : (t : List ℕ) (u : ℕ) → Live (word t u)
word_live t u = both-live (literal t) (λ _. done u) (literal-live t) (λ _. tt)

-- three words of one length
module _ (a b c : List ℕ) (first : ℕ) (two : length b ≡ length a) (three : length c ≡ length a) where
  pub long : (w : List ℕ) (v : ℕ) → length w ≡ length a → Long (length a) (word w v)
  long w v e = subst (λ (n : ℕ). Long n (word w v)) e (word-long w v)

  pub last-long : Long (length a) (either (word b (first + 1)) (word c (first + 2)))
  last-long = either-long (length a) (word b (first + 1)) (word c (first + 2)) (long b (first + 1) two) (long c (first + 2) three)

  abbrev IsOne : ℕ → List ℕ → Type 0
  IsOne v w = ((first ≡ v) × (w ≡ a)) ⊎ (((first + 1 ≡ v) × (w ≡ b)) ⊎ ((first + 2 ≡ v) × (w ≡ c)))

  is_one : (v : ℕ) (w : List ℕ) → Spells (either (word a first) (either (word b (first + 1)) (word c (first + 2)))) v w → IsOne v w
  is_one v w h =
      ⊎_elim (λ k. inl (word-is a first v w k))
      (λ k. inr (⊎_elim (λ i. inl (word-is b (first + 1) v w i)) (λ i. inr (word-is c (first + 2) v w i))
      (either-spells (length a) (word b (first + 1)) (word c (first + 2)) (long b (first + 1) two) (long c (first + 2) three) v w k)))
      (either-spells (length a) (word a first) _ (word-long a first) last-long v w h)

-- the words of three values in a row, each spelt as it should be

module _ (word_of : ℕ → List ℕ) (first : ℕ) where
  abbrev text : ℕ → List ℕ
  text v = word_of v ++ (lf ∷ [])

  abbrev form : Form ℕ
  form = one_of first (word_of first) (word_of (first + 1)) (word_of (first + 2))

  abbrev InRow : ℕ → Type 0
  InRow v = between first v (first + 2) ≡ true

  module _ (two : length (word_of (first + 1)) ≡ length (word_of first)) (three : length (word_of (first + 2)) ≡ length (word_of first)) where
    only : (v : ℕ) (w : List ℕ) → Spells form v w → InRow v × (w ≡ text v)
    unfolding one_of
    only v w h =
        let p = parts _ (λ u. word (ascii "\n") u) v w h in
        let e = word-is (ascii "\n") p.value v p.two p.second in
        let o = is_one (word_of first) (word_of (first + 1)) (word_of (first + 2)) first two three p.value p.one p.first in
        let r = row p.value p.one o in
        (subst InRow e.0 r.0, p.joined ∙ (λ i. (r.1 ∙ ap word_of e.0) i ++ e.1 i))
      where
        named-so : (u v : ℕ) (w : List ℕ) → InRow u → u ≡ v → w ≡ word_of u → InRow v × (w ≡ word_of v)
        named-so u v w i e k = (subst InRow e i, k ∙ ap word_of e)

        row : (v : ℕ) (w : List ℕ) → IsOne (word_of first) (word_of (first + 1)) (word_of (first + 2)) first two three v w → InRow v × (w ≡ word_of v)
        row v w (inl k) = named-so first v w (between_is first first (first + 2) (omega arith) (omega arith)) k.0 k.1
        row v w (inr (inl k)) = named-so (first + 1) v w (between_is first (first + 1) (first + 2) (omega arith) (omega arith)) k.0 k.1
        row v w (inr (inr k)) = named-so (first + 2) v w (between_is first (first + 2) (first + 2) (omega arith) (omega arith)) k.0 k.1

    form-live : Live form
    unfolding one_of
    form-live =
        both-live _ (λ u. word (ascii "\n") u)
        (either-live (word (word_of first) first) _ (word_live (word_of first) first)
        (either-live (word (word_of (first + 1)) (first + 1)) (word (word_of (first + 2)) (first + 2))
        (word_live (word_of (first + 1)) (first + 1))
        (word_live (word_of (first + 2)) (first + 2))))
        (λ u. word_live (ascii "\n") u)

    pub words-mean : Spells form first (text first) → Spells form (first + 1) (text (first + 1)) → Spells form (first + 2) (text (first + 2))
        → Means form InRow text
    words-mean a b c = record { spells = spells; only = only; live = form-live }
      where
        at : (u v : ℕ) → u ≡ v → Spells form u (text u) → Spells form v (text v)
        at u v e h = subst (λ (x : ℕ). Spells form x (text x)) e h

        spells : (v : ℕ) → InRow v → Spells form v (text v)
        spells v i =
            let l = between-low first v (first + 2) i in
            let h = between-high first v (first + 2) i in
            ⊎_elim (λ e. at first v (sym e) a)
            (λ n. ⊎_elim (λ e. at (first + 1) v (sym e) b) (λ m. at (first + 2) v (omega arith) c) (eq-or-ne v (first + 1)))
            (eq-or-ne v first)
