-- The line of a good case is read as that case. Assumes nothing.
use mathlib.Core.Path.{◌≡◌, refl, sym, ap, subst, ◌∙◌}
use mathlib.Core.Logic.{⊎_elim}
use mathlib.Core.Bool.{true, false≢true, ◌&&◌}
use mathlib.Core.List.{List, [], ◌∷◌, ◌++◌}
use Prim.Native.Nat.{ℕ, zero, suc, ◌+◌, ◌*◌, ◌/◌, ◌%◌, ◌<◌, ◌≤◌}
use native.Mathlib.Omega.{arith}
use lib.ListN.{length, get_or, take, drop, length-append}
use lib.Seq.{ext_get_or, take_at}
use borrow.Author.Tests.{eq-eqb, ne_eqb}
use Rattle.laws.proofs.Cases.{lt-or-le, and_left, and_right}
use Rattle.laws.proofs.Lists.{tabulate-at}
use Rattle.writing.specs.Text.{digits, hex_text}
use Rattle.forms.specs.Hexes.{is_hex, hex_value}
use Rattle.writing.proofs.Digits.{digits-one, digits-ten}
use Rattle.forms.proofs.Decimals.{between_is}
use Rattle.forms.proofs.Hexes.{digit-is-hex, value-of-digit}
use Rattle.writing.proofs.Puts.{length-hex}
use Rattle.lines.specs.Line.{space, index_of, up_to, piece_length, after_spaces, part}
use Rattle.line_values.specs.Parts.{good_number, number_of, all_hex, are_bytes, bytes_of}
use Rattle.case_reader.specs.Case.{Case, joined, case_line, SomeBytes, GoodCase, last_part, numbers_readable, is_readable, case_of}
use Rattle.line_values.proofs.Digits.{number_read}
use Rattle.line_values.proofs.Hexes.{length-bytes}
use Rattle.case_lines.proofs.Promises.{hex-first, hex-second}

-- digits of either kind are hex digits

all_append : (s t : List ℕ) → all_hex s ≡ true → all_hex t ≡ true → all_hex (s ++ t) ≡ true
unfolding all_hex
all_append [] t e f = f
all_append (c ∷ s) t e f = rw (and_left (is_hex c) (all_hex s) e) (all_append s t (and_right (is_hex c) (all_hex s) e) f)

one-hex : (d : ℕ) → d < 10 → all_hex ((48 + d) ∷ []) ≡ true
unfolding all_hex is_hex
one-hex d h = rw (between_is 48 (48 + d) 57 (omega arith) (omega arith))

digits-hex : (k n : ℕ) → n ≤ k → all_hex (digits n) ≡ true
digits-hex zero n g = rw (digits-one n (omega arith)) (one-hex n (omega arith))
digits-hex (suc k) n g =
    ⊎_elim (λ h. rw (digits-one n h) (one-hex n h))
    (λ h. rw (digits-ten n h) (all_append (digits (n / 10)) _ (digits-hex k (n / 10) (omega arith)) (one-hex (n % 10) (omega arith))))
    (lt-or-le n 10)

number-hex : (n : ℕ) → all_hex (digits n) ≡ true
number-hex n = digits-hex n n (omega arith)

hex-hex : (l : List ℕ) → ((i : ℕ) → get_or l i 0 < 256) → all_hex (hex_text l) ≡ true
unfolding hex_text all_hex
hex-hex [] h = refl
hex-hex (b ∷ l) h =
    let z = h 0 in
    rw (digit-is-hex (b / 16) (omega arith), digit-is-hex (b % 16) (omega arith)) (hex-hex l (λ i. h (suc i)))

-- bytes

module _ (l : List ℕ) (g : SomeBytes l) where
  bytes_good : are_bytes (hex_text l) ≡ true
  unfolding are_bytes
  bytes_good =
      rw (ne_eqb (length (hex_text l)) 0 (λ z. omega (arith, length-hex l)), eq-eqb (length (hex_text l) % 2) 0 (omega (arith, length-hex l)))
      (hex-hex l g.1)

  byte_at : (i : ℕ) → i < length l → get_or (bytes_of (hex_text l)) i 0 ≡ get_or l i 0
  unfolding bytes_of
  byte_at i h =
      let x = get_or l i 0 in
      let small = g.1 i in
      let z : x / 16 * 16 + x % 16 ≡ x = omega arith in
      tabulate-at _ 0 refl i (omega (arith, length-hex l))
      ∙ (λ j.
      (ap hex_value (hex-first l i h) ∙ value-of-digit (x / 16) (omega arith)) j * 16
      + (ap hex_value (hex-second l i h) ∙ value-of-digit (x % 16) (omega arith)) j)
      ∙ z

  bytes_read : bytes_of (hex_text l) ≡ l
  bytes_read =
      let size : length (bytes_of (hex_text l)) ≡ length l = omega (arith, length-bytes (hex_text l), length-hex l) in
      ext_get_or 0 (bytes_of (hex_text l)) l size (λ i h. byte_at i (omega arith))

-- a part and what follows it

not-space : (c : ℕ) → is_hex c ≡ true → c ≡ space → ⊥
unfolding is_hex
not-space c e z = false≢true (subst (λ (x : ℕ). is_hex x ≡ true) z e)

module _ (rest : List ℕ) where
  index-joined : (t : List ℕ) → all_hex t ≡ true → index_of space (joined t rest) ≡ length t
  unfolding index_of all_hex
  index-joined [] e = refl
  index-joined (c ∷ t) e =
      rw (ne_eqb c space (not-space c (and_left (is_hex c) (all_hex t) e))) (ap suc (index-joined t (and_right (is_hex c) (all_hex t) e)))

  back : (t : List ℕ) → drop (suc (length t)) (joined t rest) ≡ rest
  back [] = refl
  back (c ∷ t) = back t

  module _ (t : List ℕ) (e : all_hex t ≡ true) where
    pub part-first : part 0 (joined t rest) ≡ t
    unfolding part after_spaces
    part-first = ap (λ (n : ℕ). take n (joined t rest)) (index-joined t e) ∙ take_at t (space ∷ rest) (length t) refl

    piece_is : piece_length space (joined t rest) ≡ suc (length t)
    unfolding piece_length
    piece_is =
        rw (ne_eqb (index_of space (joined t rest)) (length (joined t rest))
        (λ z. omega (arith, sym (index-joined t e) ∙ z, length-append t (space ∷ rest))))
        (ap suc (index-joined t e))

    pub after_first : (k : ℕ) → after_spaces (suc k) (joined t rest) ≡ after_spaces k rest
    unfolding after_spaces
    after_first k = ap (after_spaces k) (ap (λ (n : ℕ). drop n (joined t rest)) piece_is ∙ back t)

    pub part-next : (k : ℕ) → part (suc k) (joined t rest) ≡ part k rest
    unfolding part
    part-next k = ap (up_to space) (after_first k)

-- a good case's line is readable, and says that case
module _ (c : Case) (g : GoodCase c) where
  abbrev from-5 : List ℕ
  from-5 = joined (digits c.skip) (hex_text c.buffer)

  abbrev from-4 : List ℕ
  from-4 = joined (digits c.bits) from-5

  abbrev from-3 : List ℕ
  from-3 = joined (digits c.start) from-4

  abbrev from-2 : List ℕ
  from-2 = joined (hex_text c.iv) from-3

  abbrev from-1 : List ℕ
  from-1 = joined (hex_text c.key) from-2

  abbrev line : List ℕ
  line = joined (digits c.algorithm) from-1

  -- what follows three parts, which differ in kind from those after them
  after-3 : (k : ℕ) → after_spaces (suc (suc (suc k))) line ≡ after_spaces k from-3
  after-3 k = after_first from-1 _ (number-hex _) (suc (suc k)) ∙ after_first from-2 _ (hex-hex _ g.key.1) (suc k) ∙ after_first from-3 _ (hex-hex _ g.iv.1) k

  part-3 : (k : ℕ) → part (suc (suc (suc k))) line ≡ part k from-3
  unfolding part
  part-3 k = ap (up_to space) (after-3 k)

  number-0 : number_of (part 0 line) ≡ good_number c.algorithm
  number-0 = ap number_of (part-first from-1 _ (number-hex _)) ∙ number_read c.algorithm g.algorithm

  part-1 : part 1 line ≡ hex_text c.key
  part-1 = part-next from-1 _ (number-hex _) 0 ∙ part-first from-2 _ (hex-hex _ g.key.1)

  part-2 : part 2 line ≡ hex_text c.iv
  part-2 = part-next from-1 _ (number-hex _) 1 ∙ part-next from-2 _ (hex-hex _ g.key.1) 0 ∙ part-first from-3 _ (hex-hex _ g.iv.1)

  number-3 : number_of (part 3 line) ≡ good_number c.start
  number-3 = ap number_of (part-3 0 ∙ part-first from-4 _ (number-hex _)) ∙ number_read c.start g.start

  number-4 : number_of (part 4 line) ≡ good_number c.bits
  number-4 = ap number_of (part-3 1 ∙ part-next from-4 _ (number-hex _) 0 ∙ part-first from-5 _ (number-hex _)) ∙ number_read c.bits g.bits

  number-5 : number_of (part 5 line) ≡ good_number c.skip
  number-5 =
      ap number_of (part-3 2 ∙ part-next from-4 _ (number-hex _) 1 ∙ part-next from-5 _ (number-hex _) 0 ∙ part-first (hex_text c.buffer) _ (number-hex _))
      ∙ number_read c.skip g.skip

  last-part : last_part line ≡ hex_text c.buffer
  unfolding after_spaces
  last-part = after-3 3 ∙ after_first from-4 _ (number-hex _) 2 ∙ after_first from-5 _ (number-hex _) 1 ∙ after_first (hex_text c.buffer) _ (number-hex _) 0

  pub good-is-readable : is_readable (case_line c) ≡ true
  unfolding case_line is_readable numbers_readable
  good-is-readable =
      λ i.
      ((number-0 i).good && ((number-3 i).good && ((number-4 i).good && (number-5 i).good)))
      && ((ap are_bytes part-1 ∙ bytes_good c.key g.key) i
      && ((ap are_bytes part-2 ∙ bytes_good c.iv g.iv) i && (ap are_bytes last-part ∙ bytes_good c.buffer g.buffer) i))

  pub good-is-read : case_of (case_line c) ≡ c
  unfolding case_line case_of
  good-is-read =
      λ i.
      record {
        algorithm = (number-0 i).value;
        key = (ap bytes_of part-1 ∙ bytes_read c.key g.key) i;
        iv = (ap bytes_of part-2 ∙ bytes_read c.iv g.iv) i;
        start = (number-3 i).value;
        bits = (number-4 i).value;
        skip = (number-5 i).value;
        buffer = (ap bytes_of last-part ∙ bytes_read c.buffer g.buffer) i;
      }
