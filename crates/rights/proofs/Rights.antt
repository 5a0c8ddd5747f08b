-- A use that lies within another gives no right that the other lacks. Assumes nothing.
use mathlib.Core.Bool.{Bool, true, false, ◌||◌, or-true, false≢true}
use mathlib.Core.Path.{◌≡◌, refl, sym, subst}
use Prim.Native.Nat.{ℕ}
use borrow.Author.Tests.{eqb-true, eq-eqb}
use lib.Dec.{eqb}
use Rattle.laws.proofs.Cases.{and_left, and_right}
use Rattle.fields.specs.Fields.{is_use}
use Rattle.rights.specs.Rights.{includes, within}

-- what holds of use 3 and of the same use holds of each use that includes it
includes-cases : (usage code : ℕ) (P : ℕ → Type 0) → includes usage code ≡ true → P 3 → P code → P usage
includes-cases usage code P e three same = go (eqb usage 3) refl (eqb usage code) refl e
  where
    go : (a : Bool) → eqb usage 3 ≡ a → (b : Bool) → eqb usage code ≡ b → a || b ≡ true → P usage
    go true p b q e = subst P (sym (eqb-true usage 3 p)) three
    go false p true q e = subst P (sym (eqb-true usage code q)) same
    go false p false q e = absurd (false≢true e)

pub within-includes : (usage present direction : ℕ) → within usage present ≡ true → includes usage direction ≡ true → includes present direction ≡ true
within-includes usage present direction e h =
    includes-cases present usage (λ (u : ℕ). includes u direction ≡ true) (and_right (is_use usage) (includes present usage) e) refl h

pub within-trans : (a b c : ℕ) → within a b ≡ true → within b c ≡ true → within a c ≡ true
within-trans a b c e h = rw (and_left (is_use a) (includes b a) e) (within-includes b c a h (and_right (is_use a) (includes b a) e))

pub within_same : (usage : ℕ) → is_use usage ≡ true → within usage usage ≡ true
within_same usage e = rw (e, eq-eqb usage usage refl) (or-true (eqb usage 3))
