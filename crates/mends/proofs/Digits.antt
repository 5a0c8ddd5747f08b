-- What mending leaves of a value says what the value says: leading zeros change no number, and upper case no digit. Assumes nothing.
use mathlib.Core.Bool.{Bool, true, false, ◌&&◌, ◌||◌}
use mathlib.Core.Logic.{⊎_elim}
use mathlib.Core.List.{List, [], ◌∷◌, ◌++◌}
use mathlib.Core.Path.{◌≡◌, refl, sym, ap, subst, ◌∙◌}
use Prim.Native.Nat.{ℕ, zero, suc, ◌+◌, ◌-◌, ◌*◌, ◌/◌, ◌%◌, ◌≤◌, ◌<◌, zero-le}
use native.Mathlib.Omega.{arith}
use lib.Dec.{eqb, leb}
use lib.ListN.{length, get_or, take, drop, replicate, length-append, take-append-drop}
use borrow.Author.Tests.{eqb-true, le-leb, lt-leb}
use Rattle.laws.specs.Choice.{pick}
use Rattle.laws.proofs.Cases.{and_left, and_right, lt-or-le}
use Rattle.laws.proofs.Tests.{holds, agree}
use Rattle.fields.specs.Fields.{between}
use Rattle.fields.proofs.Ranges.{between-low, between-high}
use Rattle.forms.proofs.Decimals.{between_is, or_right}
use Rattle.writing.specs.Text.{digits, hex_digit, hex_text}
use Rattle.writing.proofs.Digits.{digits-one, digits-ten}
use Rattle.writing.proofs.Puts.{length-hex}
use Rattle.line_parts.specs.Line.{leading}
use Rattle.line_faults.specs.Faults.{zeros_in, is_upper_hex, lower_hex}
use Rattle.mended_text.specs.Text.{lowered}
use Rattle.mends.specs.Kept.{decimal_from, all_decimal, SaysNumber, is_hex_digit, hex_digit_of, half_byte_of, SaysKey}

-- NUMBERS

from-append : (n : ℕ) (s t : List ℕ) → decimal_from n (s ++ t) ≡ decimal_from (decimal_from n s) t
unfolding decimal_from
from-append n [] t = refl
from-append n (b ∷ s) t = from-append (n * 10 + (b - 48)) s t

decimal-append : (s t : List ℕ) → all_decimal s ≡ true → all_decimal t ≡ true → all_decimal (s ++ t) ≡ true
unfolding all_decimal
decimal-append [] t e f = f
decimal-append (b ∷ s) t e f =
    λ i. and_left (between 48 b 57) _ e i && decimal-append s t (and_right (between 48 b 57) (all_decimal s) e) f i

said_more : (m d : ℕ) (s : List ℕ) → d < 10 → SaysNumber m s → SaysNumber (m * 10 + d) (s ++ ((48 + d) ∷ []))
unfolding decimal_from all_decimal
said_more m d s h r =
    record {
      some = omega (arith, length-append s ((48 + d) ∷ []));
      digits = decimal-append s ((48 + d) ∷ []) r.digits (rw (between_is 48 (48 + d) 57 (omega arith) (omega arith)));
      is = from-append 0 s ((48 + d) ∷ []) ∙ omega (arith, r.is);
    }

one : (n : ℕ) → n < 10 → SaysNumber n (digits n)
unfolding decimal_from all_decimal
one n l =
    rw (digits-one n l)
    (record { some = omega arith; digits = rw (between_is 48 (48 + n) 57 (omega arith) (omega arith)); is = omega arith })

ten : (n : ℕ) → 10 ≤ n → SaysNumber (n / 10) (digits (n / 10)) → SaysNumber n (digits n)
ten n l r =
    let z : n / 10 * 10 + n % 10 ≡ n = omega arith in
    let d : n % 10 < 10 = omega arith in
    rw (digits-ten n l)
    (subst (λ (m : ℕ). SaysNumber m (digits (n / 10) ++ ((48 + n % 10) ∷ []))) z (said_more (n / 10) (n % 10) (digits (n / 10)) d r))

-- a number's digits say that number
digits-say : (k n : ℕ) → n ≤ k → SaysNumber n (digits n)
digits-say zero n h = one n (omega arith)
digits-say (suc k) n h = ⊎_elim (one n) (λ l. ten n l (digits-say k (n / 10) (omega arith))) (lt-or-le n 10)

-- zeros before a number's digits change nothing
zeros-say : (z n : ℕ) (s : List ℕ) → SaysNumber n s → SaysNumber n (replicate z 48 ++ s)
unfolding decimal_from all_decimal
zeros-say zero n s r = r
zeros-say (suc z) n s r = let m = zeros-say z n s r in record { some = omega arith; digits = m.digits; is = m.is }

pub zeros-front : (b m : ℕ) (s : List ℕ) → take (leading b (take m s)) s ≡ replicate (leading b (take m s)) b
unfolding leading
zeros-front b zero s = refl
zeros-front b (suc m) [] = refl
zeros-front b (suc m) (x ∷ s) = go (eqb x b) refl (zeros-front b m s)
  where
    go : (t : Bool) → eqb x b ≡ t → take (leading b (take m s)) s ≡ replicate (leading b (take m s)) b
        → take (pick t (suc (leading b (take m s))) 0) (x ∷ s) ≡ replicate (pick t (suc (leading b (take m s))) 0) b
    go true e r = λ i. eqb-true x b e i ∷ r i
    go false e r = refl

pub zeros-split : (v : List ℕ) → replicate (zeros_in v) 48 ++ drop (zeros_in v) v ≡ v
unfolding zeros_in
zeros-split v =
    ap (λ (t : List ℕ). t ++ drop (leading 48 (take (length v - 1) v)) v) (sym (zeros-front 48 (length v - 1) v))
    ∙ take-append-drop (leading 48 (take (length v - 1) v)) v

pub number-kept : (n : ℕ) (v : List ℕ) → drop (zeros_in v) v ≡ digits n → SaysNumber n v
number-kept n v e =
    subst (SaysNumber n) (ap (λ (t : List ℕ). replicate (zeros_in v) 48 ++ t) (sym e) ∙ zeros-split v)
    (zeros-say (zeros_in v) n (digits n) (digits-say n n (omega arith)))

pub number-said : (n : ℕ) → decimal_from 0 (digits n) ≡ n
number-said n = (digits-say n n (omega arith)).is

-- KEYS

lowered-length : (s : List ℕ) → length (lowered s) ≡ length s
unfolding lowered
lowered-length [] = refl
lowered-length (b ∷ s) = ap suc (lowered-length s)

lowered-at : (s : List ℕ) (i : ℕ) → get_or (lowered s) i 0 ≡ lower_hex (get_or s i 0)
unfolding lowered lower_hex is_upper_hex
lowered-at [] i = refl
lowered-at (b ∷ s) zero = refl
lowered-at (b ∷ s) (suc i) = lowered-at s i

-- a digit in lower case is the same digit
lower-same : (b : ℕ) → hex_digit_of (lower_hex b) ≡ hex_digit_of b
unfolding lower_hex is_upper_hex hex_digit_of
lower-same b = go (between 65 b 70) refl
  where
    go : (t : Bool) → between 65 b 70 ≡ t
        → pick (leb (pick t (b + 32) b) 57) (pick t (b + 32) b - 48) (pick (leb (pick t (b + 32) b) 70) (pick t (b + 32) b - 55) (pick t (b + 32) b - 87))
        ≡ pick (leb b 57) (b - 48) (pick (leb b 70) (b - 55) (b - 87))
    go true e =
        let l = between-low 65 b 70 e in
        let h = between-high 65 b 70 e in
        rw (lt-leb (b + 32) 57 (omega arith), lt-leb (b + 32) 70 (omega arith), lt-leb b 57 (omega arith), le-leb b 70 h) (omega arith)
    go false e = refl

lower-digit : (b : ℕ) → is_hex_digit (lower_hex b) ≡ true → is_hex_digit b ≡ true
unfolding lower_hex is_upper_hex is_hex_digit
lower-digit b = go (between 65 b 70) refl
  where
    go : (t : Bool) → between 65 b 70 ≡ t
        → (between 48 (pick t (b + 32) b) 57 || (between 65 (pick t (b + 32) b) 70 || between 97 (pick t (b + 32) b) 102)) ≡ true
        → between 48 b 57 || (t || between 97 b 102) ≡ true
    go true e h = or_right (between 48 b 57)
    go false e h = (λ i. between 48 b 57 || (sym e i || between 97 b 102)) ∙ h

digit-is : (d : ℕ) → d < 16 → is_hex_digit (hex_digit d) ≡ true
unfolding is_hex_digit hex_digit
digit-is d h = holds (λ d. is_hex_digit (hex_digit d)) 0 16 tt d zero-le h

digit-of : (d : ℕ) → d < 16 → hex_digit_of (hex_digit d) ≡ d
unfolding hex_digit_of hex_digit
digit-of d h = agree (λ d. hex_digit_of (hex_digit d)) (λ d. d) 0 16 tt d zero-le h

half-later : (b : ℕ) (key : List ℕ) (i : ℕ) → half_byte_of (b ∷ key) (suc (suc i)) ≡ half_byte_of key i
unfolding half_byte_of
half-later b key i =
    let r : suc (suc i) % 2 ≡ i % 2 = omega arith in
    let q : suc (suc i) / 2 ≡ suc (i / 2) = omega arith in
    λ k. pick (eqb (r k) 0) (get_or (b ∷ key) (q k) 0 / 16) (get_or (b ∷ key) (q k) 0 % 16)

hex-at : (key : List ℕ) (i : ℕ) → i < 2 * length key → get_or (hex_text key) i 0 ≡ hex_digit (half_byte_of key i)
unfolding hex_text half_byte_of
hex-at [] i h = absurd (omega arith)
hex-at (b ∷ key) zero h = refl
hex-at (b ∷ key) (suc zero) h = refl
hex-at (b ∷ key) (suc (suc i)) h = hex-at key i (omega arith) ∙ ap hex_digit (sym (half-later b key i))

half-small : (key : List ℕ) (i : ℕ) → get_or key (i / 2) 0 < 256 → half_byte_of key i < 16
unfolding half_byte_of
half-small key i h = go (eqb (i % 2) 0)
  where
    go : (t : Bool) → pick t (get_or key (i / 2) 0 / 16) (get_or key (i / 2) 0 % 16) < 16
    go true = omega arith
    go false = omega arith

pub key-kept : (key v : List ℕ) → length key ≡ 24 → ((i : ℕ) → get_or key i 0 < 256) → lowered v ≡ hex_text key → SaysKey key v
key-kept key v n h e =
    record {
      size = omega (arith, lowered-length v, ap length e, length-hex key);
      digits = λ i l. lower-digit (get_or v i 0) (ap is_hex_digit (at i l) ∙ digit-is (half_byte_of key i) (half-small key i (h (i / 2))));
      same = λ i l. sym (lower-same (get_or v i 0)) ∙ ap hex_digit_of (at i l) ∙ digit-of (half_byte_of key i) (half-small key i (h (i / 2)));
    }
  where
    at : (i : ℕ) → i < 48 → lower_hex (get_or v i 0) ≡ hex_digit (half_byte_of key i)
    at i l = sym (lowered-at v i) ∙ ap (λ (s : List ℕ). get_or s i 0) e ∙ hex-at key i (omega arith)
