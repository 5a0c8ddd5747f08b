-- What reading a case promises: a readable line is the line of its case, which is good, so no two lines say the same case. That the line of each
-- good case is readable, and says that case, is in GoodLines.antt. Assumes nothing.
use mathlib.Core.Path.{◌≡◌, refl, sym, ap, ◌∙◌}
use mathlib.Core.Logic.{⊎_elim}
use mathlib.Core.Bool.{true, not, ◌&&◌}
use mathlib.Core.List.{List, [], ◌∷◌}
use Prim.Native.Nat.{ℕ, zero, suc, ◌+◌, ◌*◌, ◌/◌, ◌%◌, ◌<◌, ◌≤◌}
use native.Mathlib.Omega.{arith}
use lib.Dec.{eqb}
use lib.ListN.{length, get_or, get_or-eq_default}
use lib.Seq.{ext_get_or}
use borrow.Author.Tests.{eqb-false, not-true}
use Rattle.laws.proofs.Cases.{lt-or-le, eq-or-ne, and_left, and_right}
use Rattle.laws.proofs.Lists.{tabulate-at}
use Rattle.writing.specs.Text.{digits, hex_digit, hex_text}
use Rattle.forms.specs.Hexes.{hex_value}
use Rattle.forms.proofs.Hexes.{value-small, digit-of-value}
use Rattle.writing.proofs.Puts.{length-hex}
use Rattle.lines.specs.Line.{after_spaces, part}
use Rattle.line_values.specs.Parts.{number_of, are_bytes, bytes_of}
use Rattle.case_reader.specs.Case.{joined, case_line, Narrow, SomeBytes, GoodCase, last_part, is_number, numbers_readable, is_readable, case_of}
use Rattle.line_values.proofs.Digits.{number-text}
use Rattle.line_values.proofs.Hexes.{even, digit_at, length-bytes}
use Rattle.case_reader.proofs.Passed.{key-readable, iv-readable, buffer-readable}
use Rattle.lines.proofs.Pieces.{cut_at, some-before}

-- the bytes w spell the value v, and it is narrow
abbrev Spelt : List ℕ → ℕ → Type 0
Spelt w v = (w ≡ digits v) × Narrow v

-- the text of bytes is their hex digits

pub hex-first : (l : List ℕ) (i : ℕ) → i < length l → get_or (hex_text l) (2 * i) 0 ≡ hex_digit (get_or l i 0 / 16)
unfolding hex_text
hex-first [] i h = absurd (omega arith)
hex-first (b ∷ l) zero h = refl
hex-first (b ∷ l) (suc i) h =
    let z : 2 * suc i ≡ suc (suc (2 * i)) = omega arith in
    ap (λ (k : ℕ). get_or (hex_text (b ∷ l)) k 0) z ∙ hex-first l i (omega arith)

pub hex-second : (l : List ℕ) (i : ℕ) → i < length l → get_or (hex_text l) (2 * i + 1) 0 ≡ hex_digit (get_or l i 0 % 16)
unfolding hex_text
hex-second [] i h = absurd (omega arith)
hex-second (b ∷ l) zero h = refl
hex-second (b ∷ l) (suc i) h =
    let z : 2 * suc i + 1 ≡ suc (suc (2 * i + 1)) = omega arith in
    ap (λ (k : ℕ). get_or (hex_text (b ∷ l)) k 0) z ∙ hex-second l i (omega arith)

module _ (s : List ℕ) (e : are_bytes s ≡ true) where
  byte-is : (i : ℕ) → i < length s / 2 → get_or (bytes_of s) i 0 ≡ hex_value (get_or s (2 * i) 0) * 16 + hex_value (get_or s (2 * i + 1) 0)
  unfolding bytes_of
  byte-is i h = tabulate-at _ 0 refl i h

  first : (i : ℕ) → i < length s / 2 → get_or (hex_text (bytes_of s)) (2 * i) 0 ≡ get_or s (2 * i) 0
  first i h =
      let d = digit_at s e (2 * i) (omega arith) in
      let f = digit_at s e (2 * i + 1) (omega (arith, even s e)) in
      let z : get_or (bytes_of s) i 0 / 16 ≡ hex_value (get_or s (2 * i) 0) = omega (arith, byte-is i h, value-small _ d, value-small _ f) in
      hex-first (bytes_of s) i (omega (arith, length-bytes s)) ∙ ap hex_digit z ∙ digit-of-value (get_or s (2 * i) 0) d

  second : (i : ℕ) → i < length s / 2 → get_or (hex_text (bytes_of s)) (2 * i + 1) 0 ≡ get_or s (2 * i + 1) 0
  second i h =
      let d = digit_at s e (2 * i) (omega arith) in
      let f = digit_at s e (2 * i + 1) (omega (arith, even s e)) in
      let z : get_or (bytes_of s) i 0 % 16 ≡ hex_value (get_or s (2 * i + 1) 0) = omega (arith, byte-is i h, value-small _ d, value-small _ f) in
      hex-second (bytes_of s) i (omega (arith, length-bytes s)) ∙ ap hex_digit z ∙ digit-of-value (get_or s (2 * i + 1) 0) f

  long : length (hex_text (bytes_of s)) ≡ length s
  long = omega (arith, length-hex (bytes_of s), length-bytes s, even s e)

  each : (k : ℕ) → k < length (hex_text (bytes_of s)) → get_or (hex_text (bytes_of s)) k 0 ≡ get_or s k 0
  each k h =
      let l : k / 2 < length s / 2 = omega (arith, long, even s e) in
      ⊎_elim
      (λ (q : k % 2 ≡ 0).
      let z : k ≡ 2 * (k / 2) = omega arith in
      ap (λ (j : ℕ). get_or (hex_text (bytes_of s)) j 0) z ∙ first (k / 2) l ∙ ap (λ (j : ℕ). get_or s j 0) (sym z))
      (λ (n : k % 2 ≡ 0 → ⊥).
      let z : k ≡ 2 * (k / 2) + 1 = omega arith in
      ap (λ (j : ℕ). get_or (hex_text (bytes_of s)) j 0) z ∙ second (k / 2) l ∙ ap (λ (j : ℕ). get_or s j 0) (sym z))
      (eq-or-ne (k % 2) 0)

  bytes-text : s ≡ hex_text (bytes_of s)
  bytes-text = sym (ext_get_or 0 (hex_text (bytes_of s)) s long each)

  some_bytes : 0 < length s
  unfolding are_bytes
  some_bytes = omega (arith, eqb-false (length s) 0 (not-true (eqb (length s) 0) (and_left (not (eqb (length s) 0)) _ e)))

  bytes_small : SomeBytes (bytes_of s)
  bytes_small = (
    omega (arith, some_bytes, even s e, length-bytes s),
    λ i. ⊎_elim
        (λ (h : i < length s / 2).
        omega (
          arith,
          byte-is i h,
          value-small _ (digit_at s e (2 * i) (omega arith)),
          value-small _ (digit_at s e (2 * i + 1) (omega (arith, even s e))),
        ))
        (λ (h : length s / 2 ≤ i). let z : get_or (bytes_of s) i 0 ≡ 0 = get_or-eq_default (bytes_of s) 0 (omega (arith, length-bytes s)) in omega arith)
        (lt-or-le i (length s / 2)),
  )

-- seven parts, one space apart
module _ (line : List ℕ) (some : 0 < length (last_part line)) where
  from-5 : 0 < length (after_spaces 5 line)
  from-5 = some-before 5 line some

  from-4 : 0 < length (after_spaces 4 line)
  from-4 = some-before 4 line from-5

  from-3 : 0 < length (after_spaces 3 line)
  from-3 = some-before 3 line from-4

  from-2 : 0 < length (after_spaces 2 line)
  from-2 = some-before 2 line from-3

  seven : line
      ≡ joined (part 0 line)
      (joined (part 1 line) (joined (part 2 line) (joined (part 3 line) (joined (part 4 line) (joined (part 5 line) (last_part line))))))
  unfolding after_spaces
  seven =
      cut_at 0 line (some-before 1 line from-2)
      ∙ ap (joined (part 0 line)) (cut_at 1 line from-2
      ∙ ap (joined (part 1 line)) (cut_at 2 line from-3
      ∙ ap (joined (part 2 line)) (cut_at 3 line from-4
      ∙ ap (joined (part 3 line)) (cut_at 4 line from-5
      ∙ ap (joined (part 4 line)) (cut_at 5 line some)))))

-- a readable line's numbers are numbers
module _ (line : List ℕ) (e : is_readable line ≡ true) where
  numbers : is_number 0 line && (is_number 3 line && (is_number 4 line && is_number 5 line)) ≡ true
  unfolding is_readable numbers_readable
  numbers = and_left (numbers_readable line) _ e

  number-0 : Spelt (part 0 line) (number_of (part 0 line)).value
  number-0 = number-text (part 0 line) (and_left (is_number 0 line) _ numbers)

  past-0 : is_number 3 line && (is_number 4 line && is_number 5 line) ≡ true
  past-0 = and_right (is_number 0 line) _ numbers

  number-3 : Spelt (part 3 line) (number_of (part 3 line)).value
  number-3 = number-text (part 3 line) (and_left (is_number 3 line) _ past-0)

  past-3 : is_number 4 line && is_number 5 line ≡ true
  past-3 = and_right (is_number 3 line) _ past-0

  number-4 : Spelt (part 4 line) (number_of (part 4 line)).value
  number-4 = number-text (part 4 line) (and_left (is_number 4 line) _ past-3)

  number-5 : Spelt (part 5 line) (number_of (part 5 line)).value
  number-5 = number-text (part 5 line) (and_right (is_number 4 line) _ past-3)

  -- it is the line of its case
  pub line-is : line ≡ case_line (case_of line)
  unfolding case_line case_of
  line-is =
      seven line (some_bytes (last_part line) (buffer-readable line e))
      ∙ (λ i.
      joined (number-0.0 i)
      (joined (bytes-text (part 1 line) (key-readable line e) i)
      (joined (bytes-text (part 2 line) (iv-readable line e) i)
      (joined (number-3.0 i)
      (joined (number-4.0 i)
      (joined (number-5.0 i)
      (bytes-text (last_part line) (buffer-readable line e) i)))))))

  -- and the case is good
  pub case-good : GoodCase (case_of line)
  unfolding case_of
  case-good =
      record {
        algorithm = number-0.1;
        key = bytes_small (part 1 line) (key-readable line e);
        iv = bytes_small (part 2 line) (iv-readable line e);
        start = number-3.1;
        bits = number-4.1;
        skip = number-5.1;
        buffer = bytes_small (last_part line) (buffer-readable line e);
      }

-- so two readable lines that say the same case are the same
pub one_line : (s t : List ℕ) → is_readable s ≡ true → is_readable t ≡ true → case_of s ≡ case_of t → s ≡ t
one_line s t e f h = line-is s e ∙ ap case_line h ∙ sym (line-is t f)
