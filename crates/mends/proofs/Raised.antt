-- Hex digits in upper case: they are seen, and in lower case they are what they were. Assumes nothing.
use mathlib.Core.Bool.{Bool, true, false, not, ◌||◌}
use mathlib.Core.List.{List, [], ◌∷◌}
use mathlib.Core.Path.{◌≡◌, refl, ap}
use Prim.Native.Nat.{ℕ, suc, ◌+◌, ◌-◌, ◌≤◌}
use native.Mathlib.Omega.{arith}
use lib.ListN.{length}
use borrow.Author.Tests.{ne_eqb, lt-ltb}
use Rattle.laws.specs.Choice.{pick}
use Rattle.laws.proofs.Cases.{and_left, and_right, neither}
use Rattle.fields.specs.Fields.{between}
use Rattle.fields.proofs.Ranges.{between-low, between-high}
use Rattle.forms.proofs.Decimals.{between_is}
use Rattle.lines.specs.Line.{space}
use Rattle.line_parts.specs.Line.{equals}
use Rattle.line_faults.specs.Faults.{is_upper_hex, any_upper_hex, lower_hex}
use Rattle.mended_text.specs.Text.{lowered}
use Rattle.mends.specs.Damage.{is_raised, raise, raised, any_raised}
use Rattle.mends.proofs.Bytes.{every, both_true}
use Rattle.mends.proofs.OneLine.{is_mark}

-- one digit
module _ (asked : Bool) (b : ℕ) where
  letter-low : is_raised asked b ≡ true → 97 ≤ b
  letter-low e = between-low 97 b 102 (and_right asked (between 97 b 102) e)

  letter-high : is_raised asked b ≡ true → b ≤ 102
  letter-high e = between-high 97 b 102 (and_right asked (between 97 b 102) e)

  raise-back : is_upper_hex b ≡ false → lower_hex (raise asked b) ≡ b
  unfolding raise lower_hex is_upper_hex
  raise-back n = go (is_raised asked b) refl
    where
      go : (t : Bool) → is_raised asked b ≡ t → pick (between 65 (pick t (b - 32) b) 70) (pick t (b - 32) b + 32) (pick t (b - 32) b) ≡ b
      go true e =
          let l = letter-low e in
          let h = letter-high e in
          let up : between 65 (b - 32) 70 ≡ true = between_is 65 (b - 32) 70 (omega arith) (omega arith) in
          rw up (omega arith)
      go false e = rw n

  raise-seen : is_upper_hex b ≡ false → is_upper_hex (raise asked b) ≡ is_raised asked b
  unfolding raise is_upper_hex
  raise-seen n = go (is_raised asked b) refl
    where
      go : (t : Bool) → is_raised asked b ≡ t → between 65 (pick t (b - 32) b) 70 ≡ t
      go true e =
          let l = letter-low e in
          let h = letter-high e in
          between_is 65 (b - 32) 70 (omega arith) (omega arith)
      go false e = n

  raise-mark : is_mark b ≡ true → is_mark (raise asked b) ≡ true
  unfolding raise
  raise-mark m = go (is_raised asked b) refl
    where
      go : (t : Bool) → is_raised asked b ≡ t → is_mark (pick t (b - 32) b) ≡ true
      go true e =
          let l = letter-low e in
          let h = letter-high e in
          both_true (lt-ltb space (b - 32) (omega arith)) (ap not (ne_eqb (b - 32) equals (λ z. omega arith)))
      go false e = m

-- all digits

pub raised-back : (upper : ℕ → Bool) (s : List ℕ) → any_upper_hex s ≡ false → lowered (raised upper s) ≡ s
unfolding raised lowered any_upper_hex
raised-back upper [] n = refl
raised-back upper (b ∷ s) n =
    let m = neither (is_upper_hex b) (any_upper_hex s) n in
    λ i. raise-back (upper 0) b m.0 i ∷ raised-back (λ i. upper (suc i)) s m.1 i

pub raised-seen : (upper : ℕ → Bool) (s : List ℕ) → any_upper_hex s ≡ false → any_upper_hex (raised upper s) ≡ any_raised upper s
unfolding raised any_upper_hex any_raised
raised-seen upper [] n = refl
raised-seen upper (b ∷ s) n =
    let m = neither (is_upper_hex b) (any_upper_hex s) n in
    λ i. raise-seen (upper 0) b m.0 i || raised-seen (λ i. upper (suc i)) s m.1 i

pub raised-marks : (upper : ℕ → Bool) (s : List ℕ) → every is_mark s ≡ true → every is_mark (raised upper s) ≡ true
unfolding raised
raised-marks upper [] e = refl
raised-marks upper (b ∷ s) e =
    both_true (raise-mark (upper 0) b (and_left (is_mark b) (every is_mark s) e))
    (raised-marks (λ i. upper (suc i)) s (and_right (is_mark b) (every is_mark s) e))

pub raised-length : (upper : ℕ → Bool) (s : List ℕ) → length (raised upper s) ≡ length s
unfolding raised
raised-length upper [] = refl
raised-length upper (b ∷ s) = ap suc (raised-length (λ i. upper (suc i)) s)

-- and none where none is asked for
pub raised-none : (s : List ℕ) → raised (λ i. false) s ≡ s
unfolding raised raise
raised-none [] = refl
raised-none (b ∷ s) = ap (λ (t : List ℕ). b ∷ t) (raised-none s)

pub none-raised : (s : List ℕ) → any_raised (λ i. false) s ≡ false
unfolding any_raised
none-raised [] = refl
none-raised (b ∷ s) = none-raised s
