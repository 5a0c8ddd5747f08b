-- Whether a value is in form and range: it is where it is read, with its LF, as its line is read in a record. Assumes nothing.
use mathlib.Core.Bool.{Bool, true, false, true≢false}
use mathlib.Core.Logic.{◌⊎◌, inl, inr, ⊎_elim}
use mathlib.Core.List.{List, [], ◌∷◌, ◌++◌, append-nil, append_assoc}
use mathlib.Core.Path.{◌≡◌, refl, sym, ap, subst, ◌∙◌}
use Prim.Native.Nat.{ℕ, zero, suc, ◌+◌, ◌≤◌, ◌<◌}
use native.Mathlib.Omega.{arith}
use lib.ListN.{drop}
use Rattle.laws.proofs.Cases.{lt-or-le}
use Rattle.algorithms.specs.Algorithm.{name_of}
use Rattle.writing.specs.Text.{ascii, lf, digits, hex_text}
use Rattle.forms.specs.Form.{Form, Outcome, found, wrong, read_at}
use Rattle.forms.specs.Decimals.{decimal}
use Rattle.forms.proofs.Forms.{Means, reads, spelt}
use Rattle.forms.proofs.Decimals.{decimal-means}
use Rattle.record_text.specs.Text.{use_word}
use Rattle.record_reader.specs.Lines.{use_form, algorithm_form, key_form}
use Rattle.record_reader.proofs.Lines.{use-means, algorithm-means, key-means}
use Rattle.line_names.specs.Names.{name_count, same_text}
use Rattle.mends.specs.Refused.{TextOf, NumberIn, GoodValue}
use Rattle.mends.proofs.OneLine.{marks-without}
use Rattle.mends.proofs.GoodValues.{below-ten, digits-marks, name-form, use-form, key-form}
use Rattle.mends.proofs.Orders.{same_self, same-is}
use Rattle.mends.proofs.Wholes.{Whole, cut-alike}

abbrev pub Decided : Type 0 → Type 0
Decided A = A ⊎ (A → ⊥)

by-reading : {A : Type 0} {good : A → Type 0} {text : A → List ℕ} (f : Form A) → Means f good (λ x. text x ++ (lf ∷ []))
    → ((x : A) → good x → Whole (text x)) → (v : List ℕ) → Whole v → Decided (TextOf good text v)
by-reading {A} {good} {text} f m whole v w = go (read_at f (v ++ (lf ∷ [])) 0) refl
  where
    go : (o : Outcome A) → read_at f (v ++ (lf ∷ [])) 0 ≡ o → Decided (TextOf good text v)
    go (found x q) e =
        let r = spelt f (v ++ (lf ∷ [])) 0 x q e in
        let o = m.only x r.text r.spells in
        let rest = drop q (v ++ (lf ∷ [])) in
        let whole-text : v ++ (lf ∷ []) ≡ text x ++ (lf ∷ rest) =
        r.splits ∙ ap (λ (t : List ℕ). t ++ rest) o.1 ∙ append_assoc (text x) (lf ∷ []) rest in
        inl (record { thing = x; fits = o.0; is = (cut-alike v (text x) [] rest w (whole x o.0) whole-text).front })
    go (wrong q) e =
        inr (λ y.
        let t = text y.thing ++ (lf ∷ []) in
        let r =
        reads f (v ++ (lf ∷ [])) 0 y.thing t [] (m.spells y.thing y.fits)
        (ap (λ (s : List ℕ). s ++ (lf ∷ [])) y.is ∙ sym (append-nil t)) in
        let z : ◌≡◌ {A = ℕ} 0 1 = cc in
        omega arith)

number-decided : (low high : ℕ) → low ≤ high → (10 ≤ high → low ≤ 1) → (v : List ℕ) → Whole v → Decided (NumberIn low high v)
number-decided low high l c v w =
    by-reading (decimal low high) (decimal-means low high l c) (λ n _. marks-without lf (digits n) (omega arith) (digits-marks n n (omega arith))) v w

form-decided : (v : List ℕ) → Decided (v ≡ ascii "2")
form-decided v = go (same_text v (ascii "2")) refl
  where
    go : (t : Bool) → same_text v (ascii "2") ≡ t → Decided (v ≡ ascii "2")
    go true e = inl (same-is v (ascii "2") e)
    go false e =
        inr (λ z. true≢false (sym (same_self (ascii "2")) ∙ ap (λ (s : List ℕ). same_text s (ascii "2")) (sym z) ∙ e))

pub decided : (k : ℕ) → k < name_count → (v : List ℕ) → Whole v → Decided (GoodValue k v)
decided =
    below-ten (λ k. (v : List ℕ) → Whole v → Decided (GoodValue k v))
    (λ v w. form-decided v)
    (number-decided 1 32 (omega arith) (λ _. omega arith))
    (number-decided 0 65535 (omega arith) (λ _. omega arith))
    (λ v w. by-reading algorithm_form algorithm-means (λ a _. marks-without lf (name_of a) (omega arith) (name-form a).marks) v w)
    (λ v w. by-reading use_form use-means (λ u _. marks-without lf (use_word u) (omega arith) (use-form u).marks) v w)
    (number-decided 0 1 (omega arith) (λ h. omega arith))
    (number-decided 0 79 (omega arith) (λ _. omega arith))
    (number-decided 0 1023 (omega arith) (λ _. omega arith))
    (number-decided 0 16383 (omega arith) (λ _. omega arith))
    (λ v w. by-reading key_form key-means (λ key g. marks-without lf (hex_text key) (omega arith) (key-form key g.0 g.1).marks) v w)

-- of n names all have it, or one has it not
abbrev AllOrSome : (ℕ → Type 0) → ℕ → Type 0
AllOrSome P n = ((k : ℕ) → k < n → P k) ⊎ ((k : ℕ) × (k < n) × (P k → ⊥))

pub all-or-some : (P : ℕ → Type 0) → ((k : ℕ) → k < name_count → Decided (P k)) → (n : ℕ) → n ≤ name_count → AllOrSome P n
all-or-some P d zero h = inl (λ k l. absurd (omega arith))
all-or-some P d (suc n) h = go (d n (omega arith)) (all-or-some P d n (omega arith))
  where
    go : Decided (P n) → AllOrSome P n → AllOrSome P (suc n)
    go d (inr o) = inr (o.0, omega (arith, o.1), o.2)
    go (inr no_value) (inl all) = inr (n, omega arith, no_value)
    go (inl here) (inl all) =
        inl (λ k l. ⊎_elim (λ m. all k m) (λ m. let z : n ≡ k = omega arith in subst P z here) (lt-or-le k n))
