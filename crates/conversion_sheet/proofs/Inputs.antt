-- The input byte by byte and line by line. Assumes nothing.
use mathlib.Core.Path.{◌≡◌, refl, sym, ap, ◌∙◌}
use mathlib.Core.Bool.{Bool, true, false, ◌&&◌, cond, not}
use Rattle.std.specs.Prelude.{Option, MatchOption}
use Rattle.std.specs.List.{position, position_or_len}
use mathlib.Core.List.{List, [], ◌∷◌, ◌++◌}
use Rattle.std.proofs.Common.{append_assoc, append-nil}
use Prim.Native.Nat.{ℕ, zero, suc, ◌+◌, ◌≤◌, ◌<◌}
use native.Mathlib.Numerals.{add-one}
use native.Mathlib.Omega.{arith}
use lib.Dec.{eqb, ltb}
use lib.ListN.{length, get_or, drop, drop_of_length-le}
use lib.Seq.{drop-cons}
use borrow.Author.Tests.{eq-eqb, ne_eqb}
use Rattle.laws.specs.Choice.{pick}
use Rattle.writing.specs.Text.{lf}
use Rattle.conversion_sheet.specs.Input.{before_empty, named_by, line_size, lines_numbers}

-- the bytes before the first empty line, from byte i on

module _ (s : List ℕ) (i : ℕ) (starts : Bool) where
  pub empty-here : i < length s → starts ≡ true → get_or s i 0 ≡ lf → i + before_empty starts (drop i s) ≡ i
  unfolding before_empty
  empty-here h t e = rw (drop-cons s i 0 h, t, eq-eqb (get_or s i 0) lf e) (omega arith)

  pub empty-later : i < length s → starts && eqb (get_or s i 0) lf ≡ false
      → i + before_empty starts (drop i s) ≡ i + 1 + before_empty (eqb (get_or s i 0) lf) (drop (i + 1) s)
  unfolding before_empty
  empty-later h e = rw (add-one, drop-cons s i 0 h, e) (omega arith)

  pub empty-end : length s ≤ i → i + before_empty starts (drop i s) ≡ i
  unfolding before_empty
  empty-end h = rw (drop_of_length-le s h) (omega arith)

-- the bytes of the first line, by the library's search

line_by : (s : List ℕ) → line_size s ≡ cond (ltb (position_or_len (λ b. eqb b lf) s) (length s)) (position_or_len (λ b. eqb b lf) s + 1) (length s)
unfolding line_size
line_by [] = refl
line_by (b ∷ s) = go (eqb b lf) (line_by s)
  where
    place : ℕ
    place = position_or_len (λ x. eqb x lf) s

    go : (t : Bool) → line_size s ≡ cond (ltb place (length s)) (place + 1) (length s)
        → pick t 1 (suc (line_size s)) ≡ cond (ltb (cond (not t) (1 + place) 0) (suc (length s))) (cond (not t) (1 + place) 0 + 1) (suc (length s))
    go true e = grind arith
    go false e = grind arith

pub line_behind : (s : List ℕ) {r : Option ℕ} {n : ℕ} → r ≡ position (λ b. eqb b lf) s → MatchOption r (n ≡ length s) (λ i. n ≡ i + 1) → (n ≡ line_size s) × (n ≤ length s)
line_behind s {r} {n} e m = grind (arith, line_by s)

-- a line has some bytes, and no more than there are
pub line-some : (s : List ℕ) → 0 < length s → (0 < line_size s) × (line_size s ≤ length s)
unfolding line_size
line-some [] h = absurd (omega arith)
line-some (b ∷ s) h = go (eqb b lf) (within s)
  where
    within : (t : List ℕ) → line_size t ≤ length t
    within [] = omega arith
    within (c ∷ t) = one (eqb c lf) (within t)
      where
        one : (x : Bool) → line_size t ≤ length t → pick x 1 (suc (line_size t)) ≤ suc (length t)
        one true e = omega arith
        one false e = omega arith

    go : (x : Bool) → line_size s ≤ length s → (0 < pick x 1 (suc (line_size s))) × (pick x 1 (suc (line_size s)) ≤ suc (length s))
    go true e = (omega arith, omega arith)
    go false e = (omega arith, omega arith)

-- the numbers of the lines

pub numbers-none : (k : ℕ) (s : List ℕ) → length s ≡ 0 → lines_numbers k s ≡ []
unfolding lines_numbers
numbers-none zero s e = refl
numbers-none (suc k) s e = rw (eq-eqb (length s) 0 e)

pub numbers-next : (k m : ℕ) (s : List ℕ) → k ≡ suc m → 0 < length s → lines_numbers k s ≡ (named_by s).before ∷ (named_by s).after ∷ lines_numbers m (drop (line_size s) s)
unfolding lines_numbers
numbers-next k m s e h = ap (λ (n : ℕ). lines_numbers n s) e ∙ rw (ne_eqb (length s) 0 (λ z. omega arith))

-- one line more, of the numbers that are read

module _ (items s : List ℕ) (k : ℕ) where
  pub pair-read : {m size before after : ℕ} {first both rest : List ℕ} → k ≡ suc m → 0 < length s
      → before ≡ (named_by s).before → after ≡ (named_by s).after → size ≡ line_size s
      → first ≡ items ++ before ∷ [] → both ≡ first ++ after ∷ [] → rest ≡ drop size s
      → items ++ lines_numbers k s ≡ both ++ lines_numbers m rest
  pair-read {m} {size} {before} {after} {first} {both} {rest} e some b a z f g r =
      ap (λ (l : List ℕ). items ++ l) (numbers-next k m s e some)
      ∙ (λ i. items ++ (sym b i ∷ sym a i ∷ lines_numbers m (drop (sym z i) s)))
      ∙ (λ i. items ++ (before ∷ after ∷ lines_numbers m (sym r i)))
      ∙ sym (append_assoc (items ++ before ∷ []) (after ∷ []) (lines_numbers m rest) ∙ append_assoc items (before ∷ []) (after ∷ lines_numbers m rest))
      ∙ (λ i. (sym f i ++ after ∷ []) ++ lines_numbers m rest)
      ∙ (λ i. sym g i ++ lines_numbers m rest)

  pub pairs-end : lines_numbers k s ≡ [] → items ++ lines_numbers k s ≡ items
  pairs-end e = ap (λ (l : List ℕ). items ++ l) e ∙ append-nil items
