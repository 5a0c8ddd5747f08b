-- What the tests of a list of pairs come to, each way. Assumes nothing.
use mathlib.Core.Path.{◌≡◌, refl, sym, ap, ◌∙◌}
use mathlib.Core.Bool.{Bool, true, false, ◌||◌, ◌&&◌, not, true≢false, false≢true}
use mathlib.Core.Logic.{◌⊎◌, inl, inr, ⊎_elim}
use mathlib.Core.List.{List, [], ◌∷◌}
use Prim.Native.Nat.{ℕ, zero, suc, ◌+◌, ◌*◌, ◌/◌, ◌%◌, ◌≤◌, ◌<◌}
use native.Mathlib.Omega.{arith}
use lib.Dec.{eqb}
use lib.ListN.{length, get_or}
use borrow.Author.Tests.{eqb-true, eqb-false, eq-eqb, ne_eqb, not-true, not-false}
use Rattle.laws.specs.Choice.{pick}
use Rattle.laws.proofs.Cases.{lt-or-le, neither, and_left, and_right}
use Rattle.slots.specs.declared.Slot.{Slot}
use Rattle.conversion_pairs.specs.Pairs.{pair_count, after_side, number_on, named_on, is_there, first_from, left_out, leaves_out}
use Rattle.conversions.specs.Conforms.{Pair, pairs_of}
use Rattle.conversions.specs.Verdict.{pair_at, First, Never}

-- a test that holds is one of two
pub either-of : (a b : Bool) → a || b ≡ true → (a ≡ true) ⊎ (b ≡ true)
either-of true b e = inl refl
either-of false b e = inr e

-- the last of the numbers below i + 1, or one before it
pub last_or : (k i : ℕ) → k < suc i → (k < i) ⊎ (k ≡ i)
last_or k i h = ⊎_elim inl (λ l. inr (omega arith)) (lt-or-le k i)

-- the first place

module _ (test : ℕ → Bool) where
  pub first-none : (i n : ℕ) → first_from test i n ≡ 0 → (k : ℕ) → i ≤ k → k < i + n → test k ≡ false
  unfolding first_from
  first-none i zero e k h l = absurd (omega arith)
  first-none i (suc n) e k h l = go (test i) refl e (λ q m. first-none (i + 1) n q k m (omega arith))
    where
      go : (t : Bool) → test i ≡ t → pick t (i + 1) (first_from test (i + 1) n) ≡ 0 → (first_from test (i + 1) n ≡ 0 → i + 1 ≤ k → test k ≡ false) → test k ≡ false
      go true p q rest = absurd (omega arith)
      go false p q rest = ⊎_elim (λ m. rest q (omega arith)) (λ m. let z : k ≡ i = omega arith in ap test z ∙ p) (lt-or-le i k)

  -- found at k: the test holds there, and at no place before it
  pub record Found (i n p : ℕ) : Type 0 where
    pub place : ℕ
    pub low : i ≤ place
    pub high : place < i + n
    pub here : test place ≡ true
    pub earlier : (k : ℕ) → i ≤ k → k < place → test k ≡ false
    pub is : p ≡ place + 1

  pub first_some : (i n : ℕ) → (first_from test i n ≡ 0 → ⊥) → Found i n (first_from test i n)
  unfolding first_from
  first_some i zero ne = absurd (ne refl)
  first_some i (suc n) ne = go (test i) refl ne (first_some (i + 1) n)
    where
      go : (t : Bool) → test i ≡ t → (pick t (i + 1) (first_from test (i + 1) n) ≡ 0 → ⊥)
          → ((first_from test (i + 1) n ≡ 0 → ⊥) → Found (i + 1) n (first_from test (i + 1) n))
          → Found i (suc n) (pick t (i + 1) (first_from test (i + 1) n))
      go true p q rest = record { place = i; low = omega arith; high = omega arith; here = p; earlier = λ k h l. absurd (omega arith); is = refl }
      go false p q rest =
          let f = rest q in
          record {
            place = f.place;
            low = omega (arith, f.low);
            high = omega (arith, f.high);
            here = f.here;
            earlier = λ k h l. ⊎_elim (λ m. f.earlier k (omega arith) l) (λ m. let z : k ≡ i = omega arith in ap test z ∙ p) (lt-or-le i k);
            is = f.is;
          }

-- a number that is named on a side is that of a pair, and one that is not is none's

module _ (side : ℕ) (flat : List ℕ) (n : ℕ) where
  pub named-yes : (i : ℕ) → named_on side flat n i ≡ true → (k : ℕ) × (k < i) × (number_on side flat k ≡ n)
  unfolding named_on
  named-yes zero e = absurd (false≢true e)
  named-yes (suc i) e =
      ⊎_elim (λ h. let r = named-yes i h in (r.0, omega (arith, r.1), r.2))
      (λ h. (i, omega arith, eqb-true (number_on side flat i) n h))
      (either-of (named_on side flat n i) _ e)

  pub named-no : (i : ℕ) → named_on side flat n i ≡ false → (k : ℕ) → k < i → number_on side flat k ≡ n → ⊥
  unfolding named_on
  named-no zero e k h p = absurd (omega arith)
  named-no (suc i) e k h p =
      let no = neither (named_on side flat n i) _ e in
      ⊎_elim (λ l. named-no i no.0 k l p) (λ l. eqb-false (number_on side flat i) n no.1 (ap (number_on side flat) (sym l) ∙ p)) (last_or k i h)

-- an after record that no pair names

module _ (after : List Slot) (flat : List ℕ) where
  pub record Out : Type 0 where
    pub number : ℕ
    pub there : is_there after number ≡ true
    pub unnamed : named_on after_side flat number (pair_count flat) ≡ false

  pub out-yes : (n : ℕ) → leaves_out after flat n ≡ true → Out
  unfolding leaves_out left_out
  out-yes zero e = absurd (false≢true e)
  out-yes (suc n) e =
      ⊎_elim (out-yes n)
      (λ h. record { number = n + 1; there = and_left (is_there after (n + 1)) _ h; unnamed = not-true _ (and_right (is_there after (n + 1)) _ h) })
      (either-of (leaves_out after flat n) _ e)

  pub out-no : (n : ℕ) → leaves_out after flat n ≡ false → (m : ℕ) → 1 ≤ m → m ≤ n → is_there after m ≡ true → named_on after_side flat m (pair_count flat) ≡ true
  unfolding leaves_out left_out
  out-no zero e m h l t = absurd (omega arith)
  out-no (suc n) e m h l t =
      let no = neither (leaves_out after flat n) _ e in
      ⊎_elim (λ q. out-no n no.0 m h (omega arith) t)
      (λ q. let p : m ≡ n + 1 = omega arith in
      not-both (is_there after m) (named_on after_side flat m (pair_count flat)) t
      (ap (λ (x : ℕ). is_there after x && not (named_on after_side flat x (pair_count flat))) p ∙ no.1))
      (lt-or-le m (n + 1))
    where
      not-both : (a b : Bool) → a ≡ true → a && not b ≡ false → b ≡ true
      not-both true b p q = not-false b q
      not-both false b p q = absurd (false≢true p)

-- a flat list, pair by pair

pub pairs-length : (flat : List ℕ) → length (pairs_of flat) ≡ pair_count flat
pairs-length [] = refl
pairs-length (b ∷ []) = refl
pairs-length (b ∷ a ∷ l) = let e = pairs-length l in omega arith

pub before-is : (flat : List ℕ) (i : ℕ) → number_on 0 flat i ≡ (pair_at (pairs_of flat) i).before
before-is [] i = refl
before-is (b ∷ []) zero = refl
before-is (b ∷ []) (suc i) = ap (λ (k : ℕ). get_or (b ∷ []) k 0) {x = 2 * suc i + 0} {y = suc (suc (2 * i + 0))} (omega arith)
before-is (b ∷ a ∷ l) zero = refl
before-is (b ∷ a ∷ l) (suc i) = ap (λ (k : ℕ). get_or (b ∷ a ∷ l) k 0) {x = 2 * suc i + 0} {y = suc (suc (2 * i + 0))} (omega arith) ∙ before-is l i

pub after_is : (flat : List ℕ) (i : ℕ) → number_on 1 flat i ≡ (pair_at (pairs_of flat) i).after
after_is [] i = refl
after_is (b ∷ []) zero = refl
after_is (b ∷ []) (suc i) = ap (λ (k : ℕ). get_or (b ∷ []) k 0) {x = 2 * suc i + 1} {y = suc (suc (2 * i + 1))} (omega arith)
after_is (b ∷ a ∷ l) zero = refl
after_is (b ∷ a ∷ l) (suc i) = ap (λ (k : ℕ). get_or (b ∷ a ∷ l) k 0) {x = 2 * suc i + 1} {y = suc (suc (2 * i + 1))} (omega arith) ∙ after_is l i
