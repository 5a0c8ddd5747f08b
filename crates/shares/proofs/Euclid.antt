-- Euclid's algorithm: one step, its end, and that it gives the greatest common divisor. Assumes nothing.
use mathlib.Core.Logic.{⊎_elim}
use mathlib.Core.Path.{◌≡◌, refl, sym, subst, ◌∙◌}
use Prim.Native.Nat.{ℕ, zero, suc, ◌≤◌, ◌<◌, ◌%◌}
use Prim.Native.Nat.{◌∣◌}
use native.Mathlib.Nat.{mod-lt, dvd_refl, dvd-zero, dvd-mod_iff}
use native.Mathlib.Omega.{arith}
use borrow.Author.Tests.{eq-eqb, ne_eqb}
use Rattle.laws.proofs.Cases.{eq-or-ne}
use Rattle.shares.specs.Share.{gcd_within, gcd}

-- one step, within any bound

module _ (k a b : ℕ) where
  within_none : b ≡ 0 → gcd_within k a b ≡ a
  unfolding gcd_within
  within_none z = go k
    where
      go : (k : ℕ) → gcd_within k a b ≡ a
      go zero = refl
      go (suc k) = rw (eq-eqb b 0 z)

  within-next : (b ≡ 0 → ⊥) → gcd_within (suc k) a b ≡ gcd_within k b (a % b)
  unfolding gcd_within
  within-next n = rw (ne_eqb b 0 n)

pub rest-less : (a b : ℕ) → (b ≡ 0 → ⊥) → a % b < b
rest-less a b n = mod-lt a (⊎_elim (λ z. absurd (n z)) (λ (_ : b ≡ 0 → ⊥). positive b n) (eq-or-ne b 0))
  where
    positive : (b : ℕ) → (b ≡ 0 → ⊥) → 0 < b
    positive zero n = absurd (n refl)
    positive (suc b) n = omega arith

-- any two bounds that suffice give the same divisor
enough : (k j a b : ℕ) → b ≤ k → b ≤ j → gcd_within k a b ≡ gcd_within j a b
enough zero j a b h g = let z : b ≡ 0 = omega arith in within_none zero a b z ∙ sym (within_none j a b z)
enough (suc k) zero a b h g = let z : b ≡ 0 = omega arith in within_none (suc k) a b z ∙ sym (within_none zero a b z)
enough (suc k) (suc j) a b h g =
    ⊎_elim (λ z. within_none (suc k) a b z ∙ sym (within_none (suc j) a b z))
    (λ n.
    let l = rest-less a b n in
    within-next k a b n ∙ (enough k j b (a % b) (omega arith) (omega arith) ∙ sym (within-next j a b n)))
    (eq-or-ne b 0)

pub gcd-none : (a b : ℕ) → b ≡ 0 → gcd a b ≡ a
unfolding gcd
gcd-none a b z = within_none b a b z

pub gcd-next : (a b : ℕ) → (b ≡ 0 → ⊥) → gcd a b ≡ gcd b (a % b)
unfolding gcd
gcd-next a b n =
    let l = rest-less a b n in
    enough b (suc b) a b (omega arith) (omega arith)
    ∙ (within-next b a b n ∙ enough b (a % b) b (a % b) (omega arith) (omega arith))

-- it divides both

over : (k a b : ℕ) → b ≡ 0 → (gcd_within k a b ∣ a) × (gcd_within k a b ∣ b)
over k a b z = rw (within_none k a b z) (dvd_refl a, subst (λ (x : ℕ). a ∣ x) (sym z) (dvd-zero a))

both : (k a b : ℕ) → b ≤ k → (gcd_within k a b ∣ a) × (gcd_within k a b ∣ b)
both zero a b h = over zero a b (omega arith)
both (suc k) a b h =
    ⊎_elim (over (suc k) a b)
    (λ n.
    let l = rest-less a b n in
    let r = both k b (a % b) (omega arith) in
    rw (within-next k a b n) ((dvd-mod_iff (gcd_within k b (a % b)) r.0).0 r.1, r.0))
    (eq-or-ne b 0)

-- and every number that divides both divides it
greatest : (k a b d : ℕ) → b ≤ k → d ∣ a → d ∣ b → d ∣ gcd_within k a b
greatest zero a b d h p q = let z : b ≡ 0 = omega arith in rw (within_none zero a b z) p
greatest (suc k) a b d h p q =
    ⊎_elim (λ z. rw (within_none (suc k) a b z) p)
    (λ n.
    let l = rest-less a b n in
    rw (within-next k a b n) (greatest k b (a % b) d (omega arith) q ((dvd-mod_iff d q).1 p)))
    (eq-or-ne b 0)

pub gcd-divides : (a b : ℕ) → (gcd a b ∣ a) × (gcd a b ∣ b)
unfolding gcd
gcd-divides a b = both b a b (omega arith)

pub gcd-greatest : (a b d : ℕ) → d ∣ a → d ∣ b → d ∣ gcd a b
unfolding gcd
gcd-greatest a b d = greatest b a b d (omega arith)
