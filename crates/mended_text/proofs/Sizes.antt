-- How long the mended text is: at most a hundred bytes longer than the sheet. Assumes nothing.
use mathlib.Core.Path.{◌≡◌, refl}
use mathlib.Core.Bool.{Bool, true, false}
use mathlib.Core.List.{List, [], ◌∷◌, ◌++◌}
use Prim.Native.Nat.{ℕ, zero, suc, ◌+◌, ◌-◌, ◌*◌, ◌<◌, ◌≤◌}
use native.Mathlib.Omega.{arith}
use lib.Dec.{eqb}
use lib.ListN.{length, take, drop, length-append, length-take, length-drop}
use borrow.Author.Tests.{ne_eqb, eqb-true}
use Rattle.laws.specs.Choice.{pick}
use Rattle.writing.specs.Text.{ascii, lf}
use Rattle.lines.specs.Line.{space, index_of}
use Rattle.line_parts.specs.Line.{cr, equals, ends_with, leading, bare, after_equals, value_in}
use Rattle.line_names.specs.Names.{form_name, key_name, name_count, name_text, number_in, has_name}
use Rattle.line_faults.specs.Faults.{zeros_dropped}
use Rattle.sheet_faults.specs.Sheet.{onto_first, lines_of, is_form_two, value_named}
use Rattle.mended_text.specs.Text.{lowered, mended_value, gained, value_mended, line_mended, lines_mended, text_mended}
use Rattle.mended_text.proofs.Laws.{length-lowered}

-- f i, f (i + 1), ..: the sum of n of them
abbrev total : (ℕ → ℕ) → ℕ → ℕ → ℕ
total f i zero = 0
total f i (suc n) = f i + total f (i + 1) n

-- the bytes of all lines
abbrev all_bytes : List (List ℕ) → ℕ
all_bytes [] = 0
all_bytes (line ∷ lines) = length line + all_bytes lines

-- neither of two texts is longer
either-short : (n : ℕ) (t : Bool) (x y : List ℕ) → length x ≤ n → length y ≤ n → length (pick t x y) ≤ n
either-short n true x y h k = h
either-short n false x y h k = k

onto-bytes : (b : ℕ) (lines : List (List ℕ)) → all_bytes (onto_first b lines) ≡ suc (all_bytes lines)
onto-bytes b [] = refl
onto-bytes b (line ∷ lines) = omega arith

-- lines have no more bytes than their text
lines-bytes : (s : List ℕ) → all_bytes (lines_of s) ≤ length s
unfolding lines_of
lines-bytes [] = omega arith
lines-bytes (b ∷ s) = go (eqb b lf) (lines-bytes s)
  where
    go : (t : Bool) → all_bytes (lines_of s) ≤ length s → all_bytes (pick t ([] ∷ lines_of s) (onto_first b (lines_of s))) ≤ suc (length s)
    go true h = omega arith
    go false h = omega (arith, onto-bytes b (lines_of s))

-- texts of which one, at j, is another: their bytes are at most its own and those of the rest
module _ (g : ℕ → List ℕ) (x : List ℕ) (j : ℕ) where
  abbrev instead : ℕ → ℕ
  instead k = length (pick (eqb j k) x (g k))

  passed : (i n : ℕ) → j < i → total instead i n ≡ total (λ k. length (g k)) i n
  passed i zero h = refl
  passed i (suc n) h =
      let e : length (pick (eqb j i) x (g i)) ≡ length (g i) = rw (ne_eqb j i (λ z. let y : j ≡ i = z in omega arith)) in
      omega (arith, e, passed (i + 1) n (omega arith))

  one-instead : (i n : ℕ) → total instead i n ≤ length x + total (λ k. length (g k)) i n
  one-instead i zero = omega arith
  one-instead i (suc n) = go (eqb j i) refl (one-instead (i + 1) n) (passed (i + 1) n)
    where
      go : (t : Bool) → eqb j i ≡ t → total instead (i + 1) n ≤ length x + total (λ k. length (g k)) (i + 1) n
          → (j < i + 1 → total instead (i + 1) n ≡ total (λ k. length (g k)) (i + 1) n)
          → length (pick t x (g i)) + total instead (i + 1) n ≤ length x + (length (g i) + total (λ k. length (g k)) (i + 1) n)
      go true e r q = omega (arith, q (omega (arith, eqb-true j i e)))
      go false e r q = omega arith

bare-short : (line : List ℕ) → length (bare line) ≤ length line
unfolding bare
bare-short line =
    either-short (length line) (ends_with cr line) (take (length line - 1) line) line (omega (arith, length-take (length line - 1) line)) (omega arith)

value-short : (line : List ℕ) → length (value_in line) ≤ length line
unfolding value_in after_equals
value-short line =
    let after = drop (suc (index_of equals (bare line))) (bare line) in
    omega (arith, length-drop (leading space after) after, length-drop (suc (index_of equals (bare line))) (bare line), bare-short line)

nothing : (i n : ℕ) → total (λ k. 0) i n ≡ 0
nothing i zero = refl
nothing i (suc n) = omega (arith, nothing (i + 1) n)

-- the values under the names have no more bytes than the lines
values-bytes : (i n : ℕ) (lines : List (List ℕ)) → total (λ k. length (value_named k lines)) i n ≤ all_bytes lines
unfolding value_named
values-bytes i n [] = omega (arith, nothing i n)
values-bytes i n (line ∷ lines) =
    omega (arith, one-instead (λ k. value_named k lines) (value_in line) (number_in line) i n, values-bytes i n lines, value-short line)

mended-short : (k : ℕ) (value : List ℕ) → length (mended_value k value) ≤ length value
unfolding mended_value
mended-short k value =
    let digits = drop (zeros_dropped k value) value in
    let short : length digits ≤ length value = omega (arith, length-drop (zeros_dropped k value) value) in
    either-short (length value) (eqb k key_name) (lowered digits) digits (omega (arith, length-lowered digits)) short

gained-short : (k : ℕ) → length (gained k) ≤ 1
unfolding gained
gained-short k = either-short 1 (eqb k form_name) (ascii "2") (ascii "0") (omega arith) (omega arith)

name-short : (k : ℕ) → length (name_text k) ≤ 7
unfolding name_text
name-short zero = omega arith
name-short (suc zero) = omega arith
name-short (suc (suc zero)) = omega arith
name-short (suc (suc (suc zero))) = omega arith
name-short (suc (suc (suc (suc zero)))) = omega arith
name-short (suc (suc (suc (suc (suc zero))))) = omega arith
name-short (suc (suc (suc (suc (suc (suc zero)))))) = omega arith
name-short (suc (suc (suc (suc (suc (suc (suc zero))))))) = omega arith
name-short (suc (suc (suc (suc (suc (suc (suc (suc zero)))))))) = omega arith
name-short (suc (suc (suc (suc (suc (suc (suc (suc (suc zero))))))))) = omega arith
name-short (suc (suc (suc (suc (suc (suc (suc (suc (suc (suc k)))))))))) = omega arith

module _ (two : Bool) (lines : List (List ℕ)) where
  value-most : (k : ℕ) → length (value_mended two lines k) ≤ 1 + length (value_named k lines)
  unfolding value_mended
  value-most k =
      let given = value_named k lines in
      either-short (1 + length given) (has_name two k) (mended_value k given) (gained k) (omega (arith, mended-short k given)) (omega (arith, gained-short k))

  line-most : (k : ℕ) → length (line_mended two lines k) ≤ 10 + length (value_named k lines)
  unfolding line_mended
  line-most k =
      let value = value_mended two lines k in
      omega (arith, length-append (name_text k) (equals ∷ (value ++ (lf ∷ []))), length-append value (lf ∷ []), name-short k, value-most k)

  lines-most : (k n : ℕ) → length (lines_mended two lines k n) ≤ n * 10 + total (λ k. length (value_named k lines)) k n
  unfolding lines_mended
  lines-most k zero = omega arith
  lines-most k (suc n) =
      let rest = lines-most (k + 1) n in
      omega (arith, length-append (line_mended two lines k) (lines_mended two lines (k + 1) n), line-most k)

-- ten names with `=`, LF or a gained digit each take at most a hundred bytes beside the sheet's own
pub text-most : (s : List ℕ) → length (text_mended (lines_of s)) ≤ 100 + length s
unfolding text_mended
text-most s =
    omega (
      arith,
      lines-most (is_form_two (lines_of s)) (lines_of s) 0 name_count,
      values-bytes 0 name_count (lines_of s),
      lines-bytes s,
    )
