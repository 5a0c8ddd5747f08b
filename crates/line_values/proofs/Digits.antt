-- The laws of numbers: one digit after another, and that a text is a number where it is the number's digits. Assumes nothing.
use mathlib.Core.Path.{◌≡◌, refl, sym, ap, ◌∙◌}
use mathlib.Core.Logic.{⊎_elim}
use mathlib.Core.Bool.{Bool, true, false, false≢true}
use mathlib.Core.List.{List, [], ◌∷◌, ◌++◌, append-nil, append_assoc}
use Prim.Native.Nat.{ℕ, suc, ◌+◌, ◌-◌, ◌*◌, ◌<◌, ◌≤◌}
use native.Mathlib.Omega.{arith}
use lib.Dec.{eqb}
use lib.ListN.{length, get_or, take, drop, length-append, get_or-append}
use lib.Seq.{get_or-append_seam, take_at}
use Rattle.std.proofs.Common.{Option, None, Some}
use Rattle.std.specs.Option.{is_some, unwrap_or}
use borrow.Author.Tests.{eq-eqb, ne_eqb, eqb-true}
use Rattle.laws.specs.Choice.{pick}
use Rattle.laws.proofs.Cases.{eq-or-ne}
use Rattle.writing.specs.Text.{lf, digits}
use Rattle.forms.specs.Form.{Outcome, found, wrong, read_at}
use Rattle.forms.specs.Decimals.{may_begin, may_follow, after, decimal}
use Rattle.forms.proofs.Forms.{Means, reads, spelt}
use Rattle.forms.proofs.Decimals.{decimal-means}
use Rattle.reading.proofs.Steps.{step-no, step-yes, after-lf, after-no, after-digit}
use Rattle.line_values.specs.Parts.{Number, largest, good_number, no_number, as_number, whole_number, number_of}

-- what the record of a number says of it
pub good-is : (r : Option ℕ) → is_some r ≡ (as_number r).good
good-is (Some n) = refl
good-is None = refl

pub value_is : (r : Option ℕ) → unwrap_or r 0 ≡ (as_number r).value
value_is (Some n) = refl
value_is None = refl

abbrev ended : List ℕ → List ℕ
ended s = s ++ (lf ∷ [])

-- what is answered after digits of the value n, from the place i on
abbrev pub number_from : ℕ → List ℕ → ℕ → Number
number_from n s i = whole_number (length s + 1) (read_at (after largest n) (ended s) i)

module _ (s : List ℕ) (i : ℕ) (h : i < length s) where
  here : i < length (ended s)
  here = omega (arith, length-append s (lf ∷ []))

  byte : get_or (ended s) i 0 ≡ get_or s i 0
  byte = get_or-append s (lf ∷ []) 0 i h

  number-no : (n : ℕ) → may_follow largest n (get_or s i 0) ≡ false → number_from n s i ≡ no_number
  number-no n e =
      ⊎_elim
      (λ z. ap (whole_number (length s + 1)) (after-lf largest n (ended s) i here z) ∙ rw (ne_eqb (i + 1) (length s + 1) (λ q. omega arith)))
      (λ z. ap (whole_number (length s + 1)) (after-no largest n (ended s) i here z (ap (may_follow largest n) byte ∙ e)))
      (eq-or-ne (get_or (ended s) i 0) lf)

  number-digit : (n : ℕ) → may_follow largest n (get_or s i 0) ≡ true → number_from n s i ≡ number_from (n * 10 + (get_or s i 0 - 48)) s (i + 1)
  number-digit n e =
      ap (whole_number (length s + 1))
      (after-digit largest n (ended s) i here (ap (may_follow largest n) byte ∙ e)
      ∙ ap (λ (b : ℕ). read_at (after largest (n * 10 + (b - 48))) (ended s) (i + 1)) byte)

number-end : (n : ℕ) (s : List ℕ) (i : ℕ) → i ≡ length s → number_from n s i ≡ good_number n
number-end n s i e =
    let z : get_or (ended s) i 0 ≡ lf = ap (λ (k : ℕ). get_or (ended s) k 0) e ∙ get_or-append_seam s lf [] 0 in
    ap (whole_number (length s + 1)) (after-lf largest n (ended s) i (omega (arith, length-append s (lf ∷ []))) z)
    ∙ rw (eq-eqb (i + 1) (length s + 1) (omega arith))

-- the first digit

first-none : (s : List ℕ) → length s ≡ 0 → number_of s ≡ no_number
unfolding number_of decimal read_at may_begin
first-none [] h = refl
first-none (b ∷ s) h = absurd (omega arith)

module _ (s : List ℕ) (h : 0 < length s) where
  first-no : may_begin 0 largest (get_or s 0 0) ≡ false → number_of s ≡ no_number
  unfolding number_of decimal
  first-no e = ap (whole_number (length s + 1)) (step-no _ _ (ended s) 0 (here s 0 h) (ap (may_begin 0 largest) (byte s 0 h) ∙ e))

  first-yes : may_begin 0 largest (get_or s 0 0) ≡ true → number_of s ≡ number_from (get_or s 0 0 - 48) s 1
  unfolding number_of decimal
  first-yes e =
      ap (whole_number (length s + 1))
      (step-yes _ _ (ended s) 0 (here s 0 h) (ap (may_begin 0 largest) (byte s 0 h) ∙ e)
      ∙ ap (λ (b : ℕ). read_at (after largest (b - 48)) (ended s) 1) (byte s 0 h))

-- what a text answers: none, where it is empty; and else by its first byte and the bytes after it

pub number-none : (s : List ℕ) → length s ≡ 0 → no_number ≡ number_of s
number-none s h = sym (first-none s h)

module _ {s : List ℕ} {b : ℕ} {rest : List ℕ} (e : s ≡ b ∷ rest) where
  pub begins-not : may_begin 0 largest b ≡ false → number_of s ≡ no_number
  begins-not h = ap number_of e ∙ first-no (b ∷ rest) (omega arith) h

  pub begins : may_begin 0 largest b ≡ true → number_of s ≡ number_from (b - 48) s 1
  begins h = ap number_of e ∙ first-yes (b ∷ rest) (omega arith) h ∙ ap (λ t. number_from (b - 48) t 1) (sym e)

  module _ (k n : ℕ) where
    there : k + 1 ≡ suc k
    there = omega arith

    pub follows-not : k < length rest → may_follow largest n (get_or rest k 0) ≡ false → number_from n s (k + 1) ≡ no_number
    follows-not h f = (λ i. number_from n (e i) (there i)) ∙ number-no (b ∷ rest) (suc k) (omega arith) n f

    pub follows : k < length rest → may_follow largest n (get_or rest k 0) ≡ true
        → number_from n s (k + 1) ≡ number_from (n * 10 + (get_or rest k 0 - 48)) s (k + 1 + 1)
    follows h f =
        (λ i. number_from n (e i) (there i)) ∙ number-digit (b ∷ rest) (suc k) (omega arith) n f
        ∙ sym (λ i. number_from (n * 10 + (get_or rest k 0 - 48)) (e i) (there i + 1))

    pub none-follows : length rest ≤ k → k ≤ length rest → number_from n s (k + 1) ≡ good_number n
    none-follows h f = (λ i. number_from n (e i) (k + 1)) ∙ number-end n (b ∷ rest) (k + 1) (omega arith)

-- the digits of a number of 64 bits are read as that number, and no other text as a number

number-means : Means (decimal 0 largest) (λ v. (0 ≤ v) × (v ≤ largest)) (λ v. digits v ++ (lf ∷ []))
number-means = decimal-means 0 largest (omega arith) (λ _. omega arith)

pub number_read : (n : ℕ) → n ≤ largest → number_of (digits n) ≡ good_number n
unfolding number_of
number_read n h =
    let t = ended (digits n) in
    ap (whole_number (length (digits n) + 1)) (reads (decimal 0 largest) t 0 n t [] (number-means.spells n (omega arith, h)) (sym (append-nil t)))
    ∙ rw (eq-eqb (0 + length t) (length (digits n) + 1) (omega (arith, length-append (digits n) (lf ∷ []))))

pub number-text : (s : List ℕ) → (number_of s).good ≡ true → (s ≡ digits (number_of s).value) × ((number_of s).value ≤ largest)
unfolding number_of
number-text s e = go (read_at (decimal 0 largest) (ended s) 0) refl e
  where
    go : (o : Outcome ℕ) → read_at (decimal 0 largest) (ended s) 0 ≡ o → (whole_number (length s + 1) o).good ≡ true
        → (s ≡ digits (whole_number (length s + 1) o).value) × ((whole_number (length s + 1) o).value ≤ largest)
    go (wrong p) r g = absurd (false≢true g)
    go (found v p) r g = whole (eqb p (length s + 1)) refl g
      where
        whole : (t : Bool) → eqb p (length s + 1) ≡ t → (pick t (good_number v) no_number).good ≡ true
            → (s ≡ digits (pick t (good_number v) no_number).value) × ((pick t (good_number v) no_number).value ≤ largest)
        whole false q g = absurd (false≢true g)
        whole true q g =
            let t = spelt (decimal 0 largest) (ended s) 0 v p r in
            let m = number-means.only v t.text t.spells in
            let size : length (digits v) ≡ length s =
            omega (arith, eqb-true p (length s + 1) q, t.after, ap length m.1, length-append (digits v) (lf ∷ [])) in
            let text : ended s ≡ digits v ++ (lf ∷ drop p (ended s)) =
            t.splits ∙ ap (λ (w : List ℕ). w ++ drop p (ended s)) m.1 ∙ append_assoc (digits v) (lf ∷ []) (drop p (ended s)) in
            (sym (take_at s (lf ∷ []) (length s) refl) ∙ ap (take (length s)) text ∙ take_at (digits v) (lf ∷ drop p (ended s)) (length s) size, m.0.1)
