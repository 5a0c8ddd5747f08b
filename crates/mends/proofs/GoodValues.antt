-- The values of a good record are in form: made of marks, numbers without leading zeros, a key without upper-case digits. Assumes nothing.
use mathlib.Core.Bool.{Bool, true, false, not, false≢true, ◌||◌}
use mathlib.Core.Logic.{⊎_elim}
use mathlib.Core.List.{List, [], ◌∷◌, ◌++◌}
use mathlib.Core.Path.{◌≡◌, refl, sym, ap, ◌∙◌}
use Prim.Native.Nat.{ℕ, zero, suc, ◌+◌, ◌/◌, ◌%◌, ◌≤◌, ◌<◌, zero-le}
use native.Mathlib.Omega.{arith}
use lib.Dec.{eqb}
use lib.ListN.{length, get_or}
use borrow.Author.Tests.{ne_eqb, lt-ltb, not-true}
use Rattle.laws.specs.Choice.{pick}
use Rattle.laws.proofs.Cases.{lt-or-le}
use Rattle.laws.proofs.Tests.{holds}
use Rattle.algorithms.specs.Algorithm.{name_of, digit_of}
use Rattle.fields.specs.declared.Fields.{Fields}
use Rattle.writing.specs.Text.{ascii, digits, hex_digit, hex_text}
use Rattle.writing.proofs.Digits.{digits-one, digits-ten, length_some}
use Rattle.writing.proofs.Puts.{length-hex}
use Rattle.record_text.specs.Text.{use_word, Good}
use Rattle.lines.specs.Line.{space}
use Rattle.line_parts.specs.Line.{equals, leading}
use Rattle.line_names.specs.Names.{name_count, key_name, is_decimal}
use Rattle.line_faults.specs.Faults.{zeros_in, is_upper_hex, any_upper_hex}
use Rattle.mends.specs.Damage.{value_said}
use Rattle.mends.proofs.Bytes.{every, both_true, every_append, front-is}
use Rattle.mends.proofs.OneLine.{is_mark}
use Rattle.mends.proofs.Values.{InForm}

-- what holds of 0 to 9 holds of the number of each name
pub below-ten : (P : ℕ → Type 0) → P 0 → P 1 → P 2 → P 3 → P 4 → P 5 → P 6 → P 7 → P 8 → P 9 → (k : ℕ) → k < name_count → P k
below-ten P a b c d e f g h i j zero l = a
below-ten P a b c d e f g h i j (suc zero) l = b
below-ten P a b c d e f g h i j (suc (suc zero)) l = c
below-ten P a b c d e f g h i j (suc (suc (suc zero))) l = d
below-ten P a b c d e f g h i j (suc (suc (suc (suc zero)))) l = e
below-ten P a b c d e f g h i j (suc (suc (suc (suc (suc zero))))) l = f
below-ten P a b c d e f g h i j (suc (suc (suc (suc (suc (suc zero)))))) l = g
below-ten P a b c d e f g h i j (suc (suc (suc (suc (suc (suc (suc zero))))))) l = h
below-ten P a b c d e f g h i j (suc (suc (suc (suc (suc (suc (suc (suc zero)))))))) l = i
below-ten P a b c d e f g h i j (suc (suc (suc (suc (suc (suc (suc (suc (suc zero))))))))) l = j
below-ten P a b c d e f g h i j (suc (suc (suc (suc (suc (suc (suc (suc (suc (suc k)))))))))) l = absurd (omega arith)

-- numbers

digit-mark : (n : ℕ) → n < 10 → is_mark (48 + n) ≡ true
digit-mark n h = both_true (lt-ltb space (48 + n) (omega arith)) (ap not (ne_eqb (48 + n) equals (λ z. omega arith)))

pub digits-marks : (k n : ℕ) → n ≤ k → every is_mark (digits n) ≡ true
digits-marks zero n h = rw (digits-one n (omega arith)) (both_true (digit-mark n (omega arith)) refl)
digits-marks (suc k) n h =
    ⊎_elim (λ l. rw (digits-one n l) (both_true (digit-mark n l) refl))
    (λ l. rw (digits-ten n l)
    (every_append is_mark (digits (n / 10)) ((48 + n % 10) ∷ []) (digits-marks k (n / 10) (omega arith)) (both_true (digit-mark (n % 10) (omega arith)) refl)))
    (lt-or-le n 10)

leading-front : (b : ℕ) (s t : List ℕ) → 0 < length s → leading b s ≡ 0 → leading b (s ++ t) ≡ 0
unfolding leading
leading-front b [] t h e = absurd (omega arith)
leading-front b (x ∷ s) t h e = go (eqb x b) e
  where
    go : (u : Bool) → pick u (suc (leading b s)) 0 ≡ 0 → pick u (suc (leading b (s ++ t))) 0 ≡ 0
    go true e = absurd (omega arith)
    go false e = refl

-- the digits of a number above 0 begin with no 0
no-zero-first : (k n : ℕ) → n ≤ k → 0 < n → leading 48 (digits n) ≡ 0
unfolding leading
no-zero-first zero n h g = absurd (omega arith)
no-zero-first (suc k) n h g =
    ⊎_elim (λ l. rw (digits-one n l, ne_eqb (48 + n) 48 (λ z. omega arith)))
    (λ l. rw (digits-ten n l) (leading-front 48 (digits (n / 10)) _ (length_some (n / 10)) (no-zero-first k (n / 10) (omega arith) (omega arith))))
    (lt-or-le n 10)

pub no-zeros-more : (n : ℕ) → zeros_in (digits n) ≡ 0
unfolding zeros_in leading
no-zeros-more n =
    ⊎_elim (λ l. rw (digits-one n l))
    (λ l. rw (digits-ten n l)
    (ap (leading 48) (front-is (digits (n / 10)) (48 + n % 10)) ∙ no-zero-first (n / 10) (n / 10) (omega arith) (omega arith)))
    (lt-or-le n 10)

-- what is no key
no_key : (k : ℕ) (v : List ℕ) → eqb k key_name ≡ false → eqb k key_name ≡ true → any_upper_hex v ≡ false
no_key k v n e = absurd (false≢true (sym n ∙ e))

number-form : (k n : ℕ) → eqb k key_name ≡ false → InForm k (digits n)
number-form k n other =
    record { some = length_some n; marks = digits-marks n n (omega arith); number = λ _. no-zeros-more n; hex = no_key k (digits n) other }

-- words

word-form : (k : ℕ) (v : List ℕ) → 0 < length v → every is_mark v ≡ true → is_decimal k ≡ false → eqb k key_name ≡ false → InForm k v
word-form k v s m d other = record { some = s; marks = m; number = λ e. absurd (false≢true (sym d ∙ e)); hex = no_key k v other }

pub name-form : (a : ℕ) → InForm 3 (name_of a)
unfolding name_of digit_of is_decimal
name-form a = word-form 3 (name_of a) (omega arith) (go (eqb a 5) (eqb a 6)) refl refl
  where
    go : (x y : Bool) → every is_mark (84 ∷ 69 ∷ 65 ∷ pick x 53 (pick y 54 55) ∷ []) ≡ true
    go true y = refl
    go false true = refl
    go false false = refl

pub use-form : (u : ℕ) → InForm 4 (use_word u)
unfolding use_word is_decimal
use-form u = go (eqb u 1) (eqb u 2)
  where
    go : (x y : Bool) → InForm 4 (pick x (ascii "SEND") (pick y (ascii "RECV") (ascii "BOTH")))
    go true y = word-form 4 _ (omega arith) refl refl refl
    go false true = word-form 4 _ (omega arith) refl refl refl
    go false false = word-form 4 _ (omega arith) refl refl refl

-- the key

hex-mark : (d : ℕ) → d < 16 → is_mark (hex_digit d) ≡ true
unfolding hex_digit
hex-mark d h = holds (λ d. is_mark (hex_digit d)) 0 16 tt d zero-le h

hex-lower : (d : ℕ) → d < 16 → is_upper_hex (hex_digit d) ≡ false
unfolding hex_digit is_upper_hex
hex-lower d h = not-true (is_upper_hex (hex_digit d)) (holds (λ d. not (is_upper_hex (hex_digit d))) 0 16 tt d zero-le h)

abbrev AreBytes : List ℕ → Type 0
AreBytes key = (i : ℕ) → get_or key i 0 < 256

key-marks : (key : List ℕ) → AreBytes key → every is_mark (hex_text key) ≡ true
unfolding hex_text
key-marks [] h = refl
key-marks (b ∷ key) h =
    let l = h 0 in
    both_true (hex-mark (b / 16) (omega arith)) (both_true (hex-mark (b % 16) (omega arith)) (key-marks key (λ i. h (suc i))))

pub key-lower : (key : List ℕ) → AreBytes key → any_upper_hex (hex_text key) ≡ false
unfolding hex_text any_upper_hex
key-lower [] h = refl
key-lower (b ∷ key) h =
    let l = h 0 in
    λ i. hex-lower (b / 16) (omega arith) i || (hex-lower (b % 16) (omega arith) i || key-lower key (λ i. h (suc i)) i)

pub key-form : (key : List ℕ) → length key ≡ 24 → AreBytes key → InForm 9 (hex_text key)
unfolding is_decimal
key-form key n h =
    record {
      some = omega (arith, length-hex key);
      marks = key-marks key h;
      number = λ e. absurd (false≢true e);
      hex = λ _. key-lower key h;
    }

-- so each value is in form
pub values-in-form : (two : Bool) (number : ℕ) (f : Fields) (key : List ℕ) → Good two number f key → (k : ℕ) → k < name_count
    → InForm k (value_said number f key k)
unfolding value_said zeros_in leading
values-in-form two number f key g =
    below-ten (λ k. InForm k (value_said number f key k))
    (record { some = omega arith; marks = refl; number = λ _. refl; hex = λ e. absurd (false≢true e) })
    (number-form 1 number refl)
    (number-form 2 f.version refl)
    (name-form f.algorithm)
    (use-form f.usage)
    (number-form 5 f.side refl)
    (number-form 6 f.place refl)
    (number-form 7 f.mcc refl)
    (number-form 8 f.mnc refl)
    (key-form key g.size g.bytes)
