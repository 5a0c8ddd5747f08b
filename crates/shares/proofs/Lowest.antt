-- A share is in lowest terms, for every whole and part of it. Assumes nothing.
use mathlib.Core.Logic.{⊎_elim}
use mathlib.Core.Path.{◌≡◌, refl, sym, ap, subst, ◌∙◌}
use Prim.Native.Nat.{ℕ, zero, suc, ◌*◌, ◌≤◌, ◌<◌, ◌/◌}
use Prim.Native.Nat.{◌∣◌}
use native.Mathlib.Nat.{mul_assoc, mul_right_comm, pos_of_dvd_of_pos, div-mul_cancel, eq-one_of_dvd-one, dvd_of_mul-dvd-mul_right, mul-dvd-mul_right, one-mul}
use native.Mathlib.Omega.{arith}
use borrow.Author.Tests.{eq-eqb, ne_eqb}
use Rattle.laws.proofs.Cases.{eq-or-ne}
use Rattle.shares.specs.Share.{gcd, share_of, LowestShare}
use Rattle.shares.proofs.Euclid.{gcd-divides, gcd-greatest}

pub positive_of : (n : ℕ) → (n ≡ 0 → ⊥) → 0 < n
positive_of zero n = absurd (n refl)
positive_of (suc k) n = omega arith

-- by any greatest common divisor
module _ (part whole g : ℕ) (w : 0 < whole) (p : g ∣ part) (q : g ∣ whole) (most : (d : ℕ) → d ∣ part → d ∣ whole → d ∣ g) where
  pub positive : 0 < g
  positive = pos_of_dvd_of_pos q w

  reduced : LowestShare part whole (part / g) (whole / g)
  reduced =
      let a : part / g * g ≡ part = div-mul_cancel g p in
      let b : whole / g * g ≡ whole = div-mul_cancel g q in
      record {
        exact = ap (λ (x : ℕ). part / g * x) (sym b) ∙ (sym (mul_assoc (part / g) (whole / g) g) ∙ (mul_right_comm (part / g) (whole / g) g ∙ ap (λ (x : ℕ). x * (whole / g)) a));
        some = above (whole / g) b;
        lowest = λ d x y.
            eq-one_of_dvd-one
            (dvd_of_mul-dvd-mul_right d positive
            (subst (λ (z : ℕ). d * g ∣ z) (sym (one-mul g))
            (most (d * g)
            (subst (λ (z : ℕ). d * g ∣ z) a (mul-dvd-mul_right d x g))
            (subst (λ (z : ℕ). d * g ∣ z) b (mul-dvd-mul_right d y g)))));
      }
    where
      above : (n : ℕ) → n * g ≡ whole → 0 < n
      above zero e = absurd (omega arith)
      above (suc n) e = omega arith

pub share-lowest : (part whole : ℕ) → part ≤ whole → LowestShare part whole (share_of part whole).top (share_of part whole).bottom
unfolding share_of
share-lowest part whole within = ⊎_elim none some (eq-or-ne whole 0)
  where
    none : whole ≡ 0 → LowestShare part whole (share_of part whole).top (share_of part whole).bottom
    none z =
        rw (eq-eqb whole 0 z)
        (record { exact = omega arith; some = omega arith; lowest = λ d x y. eq-one_of_dvd-one y })

    some : (whole ≡ 0 → ⊥) → LowestShare part whole (share_of part whole).top (share_of part whole).bottom
    some n =
        let d = gcd-divides part whole in
        rw (ne_eqb whole 0 n) (reduced part whole (gcd part whole) (positive_of whole n) d.0 d.1 (gcd-greatest part whole))
