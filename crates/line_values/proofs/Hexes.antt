-- The laws of bytes by hex digits. Assumes nothing.
use mathlib.Core.Path.{◌≡◌, refl, sym, ap}
use mathlib.Core.Bool.{true, not, ◌&&◌}
use mathlib.Core.List.{List, [], ◌∷◌}
use Prim.Native.Nat.{ℕ, zero, suc, ◌+◌, ◌*◌, ◌/◌, ◌%◌, ◌<◌}
use native.Mathlib.Omega.{arith}
use lib.Dec.{eqb}
use lib.ListN.{length, get_or}
use Rattle.std.proofs.Common.{Option, None, Some}
use Rattle.std.specs.Option.{IfSome, is_some, unwrap_or}
use borrow.Author.Tests.{eqb-true}
use Rattle.laws.proofs.Cases.{and_left, and_right}
use Rattle.laws.proofs.Lists.{length-tabulate}
use Rattle.forms.specs.Hexes.{is_hex, hex_value, hex_or}
use Rattle.forms.proofs.Hexes.{value-small, no_digit, a-digit}
use Rattle.line_values.specs.Parts.{all_hex, are_bytes, bytes_of}

hex-at : (s : List ℕ) (i : ℕ) → all_hex s ≡ true → i < length s → is_hex (get_or s i 0) ≡ true
unfolding all_hex
hex-at [] i e h = absurd (omega arith)
hex-at (c ∷ s) zero e h = and_left (is_hex c) (all_hex s) e
hex-at (c ∷ s) (suc i) e h = hex-at s i (and_right (is_hex c) (all_hex s) e) (omega arith)

-- the value of a digit
pub value-is : (c : ℕ) (r : Option ℕ) → unwrap_or r 16 ≡ hex_or c → is_hex c ≡ true → r ≡ Some (hex_value c)
unfolding hex_or
value-is c None e h = absurd (omega (arith, rw h at e, value-small c h))
value-is c (Some v) e h = ap Some (rw h at e)

-- is there one?
pub value-some : (c : ℕ) (r : Option ℕ) → unwrap_or r 16 ≡ hex_or c → IfSome r (λ v. v < 16) → is_some r ≡ is_hex c
unfolding hex_or
value-some c None e s = sym (no_digit c 16 e refl)
value-some c (Some v) e s = sym (a-digit c v e (λ z. omega arith)).0

-- a text of bytes
module _ (s : List ℕ) (e : are_bytes s ≡ true) where
  some : eqb (length s % 2) 0 && all_hex s ≡ true
  unfolding are_bytes
  some = and_right (not (eqb (length s) 0)) _ e

  pub even : length s ≡ 2 * (length s / 2)
  even = omega (arith, eqb-true (length s % 2) 0 (and_left (eqb (length s % 2) 0) (all_hex s) some))

  pub digit_at : (i : ℕ) → i < length s → is_hex (get_or s i 0) ≡ true
  digit_at i h = hex-at s i (and_right (eqb (length s % 2) 0) (all_hex s) some) h

  -- both digits of a byte lie in the text
  pub inside : (i : ℕ) → i < length s / 2 → 2 * i + 1 < length s
  inside i h = omega (arith, even)

pub length-bytes : (s : List ℕ) → length (bytes_of s) ≡ length s / 2
unfolding bytes_of
length-bytes s = length-tabulate _ 0 (length s / 2)
