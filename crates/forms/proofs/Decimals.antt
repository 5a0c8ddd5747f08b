-- The laws of decimal numbers: the form `decimal low high` spells the numbers from low to high by their digits. Assumes nothing.
use mathlib.Core.Path.{◌≡◌, refl, sym, ap, subst, ◌∙◌}
use mathlib.Core.Logic.{⊎_elim}
use mathlib.Core.List.{List, [], ◌∷◌, ◌++◌, append_assoc}
use mathlib.Core.Bool.{Bool, true, false, ◌||◌}
use Prim.Native.Nat.{ℕ, zero, suc, ◌+◌, ◌-◌, ◌*◌, ◌≤◌, ◌<◌, ◌/◌, ◌%◌}
use native.Mathlib.Omega.{arith}
use lib.Dec.{eqb, ltb}
use borrow.Author.Tests.{ltb-true, leb-true, eqb-true, lt-ltb, le-leb}
use Rattle.laws.specs.Choice.{pick}
use Rattle.laws.proofs.Cases.{lt-or-le, and_left, and_right}
use Rattle.fields.specs.Fields.{between}
use Rattle.fields.proofs.Ranges.{between-low, between-high}
use Rattle.writing.specs.Text.{lf, digits}
use Rattle.writing.proofs.Digits.{digits-one, digits-ten, digits_more}
use Rattle.forms.specs.Form.{Form, done, next}
use Rattle.forms.specs.Decimals.{may_begin, may_follow, after_within, after, decimal}
use Rattle.forms.proofs.Forms.{Spells, Live, Means}

pub or_right : (t : Bool) → t || true ≡ true
or_right true = refl
or_right false = refl

pub or-false : (t : Bool) → t || false ≡ true → t ≡ true
or-false true e = refl
or-false false e = e

-- what the tests of a byte say

pub between_is : (low n high : ℕ) → low ≤ n → n ≤ high → between low n high ≡ true
between_is low n high l h = rw (le-leb low n l) (le-leb n high h)

pub begin-is : (low high b : ℕ) → may_begin low high b ≡ true → (48 ≤ b) × (b ≤ 57) × (low ≤ b - 48) × (b - 48 ≤ high)
unfolding may_begin
begin-is low high b e =
    let d = and_left (between 48 b 57) _ e in
    let r = and_right (between 48 b 57) _ e in
    (between-low 48 b 57 d, between-high 48 b 57 d, between-low low (b - 48) high r, between-high low (b - 48) high r)

begin-yes : (low high n : ℕ) → n < 10 → low ≤ n → n ≤ high → may_begin low high (48 + n) ≡ true
unfolding may_begin
begin-yes low high n h l m =
    rw (between_is 48 (48 + n) 57 (omega arith) (omega arith)) (between_is low (48 + n - 48) high (omega arith) (omega arith))

pub follow-is : (high n b : ℕ) → may_follow high n b ≡ true → (48 ≤ b) × (b ≤ 57) × (0 < n) × (n * 10 + (b - 48) ≤ high)
unfolding may_follow
follow-is high n b e =
    let d = and_left (between 48 b 57) _ e in
    let r = and_right (between 48 b 57) _ e in
    (between-low 48 b 57 d, between-high 48 b 57 d, ltb-true 0 n (and_left (ltb 0 n) _ r), leb-true _ high (and_right (ltb 0 n) _ r))

pub follow-yes : (high n d : ℕ) → d < 10 → 0 < n → n * 10 + d ≤ high → may_follow high n (48 + d) ≡ true
unfolding may_follow
follow-yes high n d h g l =
    rw (between_is 48 (48 + d) 57 (omega arith) (omega arith), lt-ltb 0 n g) (le-leb (n * 10 + (48 + d - 48)) high (omega arith))

-- reading on after digits: any two bounds that suffice give the same form

-- no digit follows the largest number
none-follows : (k high n : ℕ) → high ≤ n → after_within zero high n ≡ after_within (suc k) high n
unfolding after_within
none-follows k high n h = λ i. next (λ b. eqb b lf || may_follow high n b) (λ b. last b (may_follow high n b) refl i)
  where
    last : (b : ℕ) (t : Bool) → may_follow high n b ≡ t → done n ≡ pick t (after_within k high (n * 10 + (b - 48))) (done n)
    last b true e = let f = follow-is high n b e in absurd (omega arith)
    last b false e = refl

same : (k j high n : ℕ) → high ≤ n + k → high ≤ n + j → after_within k high n ≡ after_within j high n
unfolding after_within
same zero zero high n h g = refl
same zero (suc j) high n h g = none-follows j high n (omega arith)
same (suc k) zero high n h g = sym (none-follows k high n (omega arith))
same (suc k) (suc j) high n h g =
    λ i. next (λ b. eqb b lf || may_follow high n b) (λ b. more b (may_follow high n b) refl (same k j high (n * 10 + (b - 48))) i)
  where
    more : (b : ℕ) (t : Bool) → may_follow high n b ≡ t
        → (high ≤ n * 10 + (b - 48) + k → high ≤ n * 10 + (b - 48) + j
        → after_within k high (n * 10 + (b - 48)) ≡ after_within j high (n * 10 + (b - 48)))
        → pick t (after_within k high (n * 10 + (b - 48))) (done n) ≡ pick t (after_within j high (n * 10 + (b - 48))) (done n)
    more b true e rec = let f = follow-is high n b e in rec (omega arith) (omega arith)
    more b false e rec = refl

-- so a bound is not needed: another digit, or LF
pub after_is : (high n : ℕ)
    → after high n
    ≡ next (λ b. eqb b lf || may_follow high n b) (λ b. pick (may_follow high n b) (after high (n * 10 + (b - 48))) (done n))
unfolding after after_within
after_is high n =
    same (high - n) (suc high) high n (omega arith) (omega arith)
    ∙ (λ i.
    next (λ b. eqb b lf || may_follow high n b)
    (λ b.
    pick (may_follow high n b)
    (same high (high - (n * 10 + (b - 48))) high (n * 10 + (b - 48)) (omega arith) (omega arith) i)
    (done n)))

-- a number's digits, and then as reading goes on after it

module _ (low high : ℕ) where
  abbrev Begun : ℕ → Type 0
  Begun n = (v : ℕ) (w : List ℕ) → Spells (after high n) v w → Spells (decimal low high) v (digits n ++ w)

  begun-one : (n : ℕ) → n < 10 → low ≤ n → n ≤ high → Begun n
  unfolding decimal
  begun-one n h l m v w k =
      let z : n ≡ 48 + n - 48 = omega arith in
      rw (digits-one n h) (begin-yes low high n h l m, subst (λ (x : ℕ). Spells (after high x) v w) z k)

  begun-ten : (n : ℕ) → 10 ≤ n → n ≤ high → Begun (n / 10) → Begun n
  begun-ten n h m f v w k =
      let z : n ≡ n / 10 * 10 + (48 + n % 10 - 48) = omega arith in
      let y = follow-yes high (n / 10) (n % 10) (omega arith) (omega arith) (omega arith) in
      rw (digits-ten n h, append_assoc)
      (f v ((48 + n % 10) ∷ w)
      (rw (after_is high (n / 10), y) (or_right (eqb (48 + n % 10) lf), subst (λ (x : ℕ). Spells (after high x) v w) z k)))

  begun : (k n : ℕ) → n ≤ k → (10 ≤ high → low ≤ 1) → low ≤ n → n ≤ high → Begun n
  begun zero n g c l m = begun-one n (omega arith) l m
  begun (suc k) n g c l m =
      ⊎_elim (λ h. begun-one n h l m)
      (λ h. let e = c (omega arith) in begun-ten n h m (begun k (n / 10) (omega arith) c (omega arith) (omega arith)))
      (lt-or-le n 10)

  -- what is spelt after digits of the value n is a number whose digits begin with these
  record Rest (n v : ℕ) (w : List ℕ) : Type 0 where
    least : low ≤ v
    most : v ≤ high
    digits_of : digits n ++ w ≡ digits v ++ (lf ∷ [])

  rest : (w : List ℕ) (n v : ℕ) → Spells (after high n) v w → low ≤ n → n ≤ high → Rest n v w
  rest [] n v h l m = absurd (subst (λ (f : Form ℕ). Spells f v []) (after_is high n) h)
  rest (b ∷ w) n v h l m = go (may_follow high n b) refl (subst (λ (f : Form ℕ). Spells f v (b ∷ w)) (after_is high n) h) (rest w (n * 10 + (b - 48)) v)
    where
      go : (t : Bool) → may_follow high n b ≡ t → (eqb b lf || t ≡ true) × Spells (pick t (after high (n * 10 + (b - 48))) (done n)) v w
          → (Spells (after high (n * 10 + (b - 48))) v w → low ≤ n * 10 + (b - 48) → n * 10 + (b - 48) ≤ high → Rest (n * 10 + (b - 48)) v w)
          → Rest n v (b ∷ w)
      go true e k rec =
          let f = follow-is high n b e in
          let r = rec k.1 (omega arith) (omega arith) in
          let c : 48 + (b - 48) ≡ b = omega arith in
          let d : digits (n * 10 + (b - 48)) ≡ digits n ++ (b ∷ []) =
          digits_more n (b - 48) (omega arith) (omega arith) ∙ ap (λ (x : ℕ). digits n ++ (x ∷ [])) c in
          record {
            least = r.least;
            most = r.most;
            digits_of = sym (append_assoc (digits n) (b ∷ []) w) ∙ ap (λ (t : List ℕ). t ++ w) (sym d) ∙ r.digits_of;
          }
      go false e k rec = ended w k.0 k.1
        where
          ended : (w : List ℕ) → eqb b lf || false ≡ true → Spells (done n) v w → Rest n v (b ∷ w)
          ended (c ∷ w) x y = absurd y
          ended [] x y =
              let z : b ≡ lf = eqb-true b lf (or-false (eqb b lf) x) in
              record { least = omega arith; most = omega arith; digits_of = λ i. digits (y i) ++ (z i ∷ []) }

  after-live : (k n : ℕ) → Live (after_within k high n)
  unfolding after_within
  after-live zero n = (lf, refl, λ b e. tt)
  after-live (suc k) n = (lf, refl, λ b e. go b (may_follow high n b) (after-live k (n * 10 + (b - 48))))
    where
      go : (b : ℕ) (t : Bool) → Live (after_within k high (n * 10 + (b - 48))) → Live (pick t (after_within k high (n * 10 + (b - 48))) (done n))
      go b true l = l
      go b false l = tt

-- from low to high, where low is at most 1 or high is one digit
pub decimal-means : (low high : ℕ) → low ≤ high → (10 ≤ high → low ≤ 1)
    → Means (decimal low high) (λ v. (low ≤ v) × (v ≤ high)) (λ v. digits v ++ (lf ∷ []))
unfolding decimal after may_follow
decimal-means low high h c =
    record {
      spells = λ v g.
          begun low high v v (omega arith) c g.0 g.1 v (lf ∷ [])
          (subst (λ (f : Form ℕ). Spells f v (lf ∷ [])) (sym (after_is high v)) (refl, refl));
      only = only;
      live = (48 + low, begin-yes low high low small (omega arith) h, λ b e. after-live low high (high - (b - 48)) (b - 48));
    }
  where
    small : low < 10
    small = ⊎_elim (λ l. omega arith) (λ l. let e = c l in omega arith) (lt-or-le high 10)

    only : (v : ℕ) (w : List ℕ) → Spells (decimal low high) v w → ((low ≤ v) × (v ≤ high)) × (w ≡ digits v ++ (lf ∷ []))
    only v [] k = absurd k
    only v (b ∷ w) k =
        let f = begin-is low high b k.0 in
        let r = rest low high w (b - 48) v k.1 f.2 f.3 in
        let c : 48 + (b - 48) ≡ b = omega arith in
        ((r.least, r.most), ap (λ (x : ℕ). x ∷ w) (sym c) ∙ ap (λ (t : List ℕ). t ++ w) (sym (digits-one (b - 48) (omega arith))) ∙ r.digits_of)
