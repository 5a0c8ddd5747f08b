-- The laws of pieces: where a byte first stands, and what follows it. Assumes nothing.
use mathlib.Core.Logic.{◌≢◌}
use mathlib.Core.Path.{◌≡◌, refl, sym, ap, ◌∙◌}
use mathlib.Core.Bool.{Bool, true, false}
use mathlib.Core.List.{List, [], ◌∷◌, ◌++◌}
use Prim.Native.Nat.{ℕ, zero, suc, ◌+◌, ◌-◌, ◌<◌, ◌≤◌}
use native.Mathlib.Numerals.{add-one}
use native.Mathlib.Omega.{arith}
use lib.Dec.{eqb}
use lib.ListN.{length, get_or, take, drop, length-append, length-drop}
use lib.Seq.{take_all, split_at}
use Rattle.std.proofs.Common.{Option}
use Rattle.std.specs.Option.{MatchOption, unwrap_or}
use Rattle.std.specs.List.{AllWithin, HoldsAt}
use Rattle.std.proofs.lemmas.Iterator.{index_from_first}
use borrow.Author.Tests.{eq-eqb, ne_eqb, eqb-true, eqb-false}
use Rattle.laws.specs.Choice.{pick}
use Rattle.lines.specs.Line.{space, index_of, up_to, piece_length, after_spaces, part}

-- what the search for a byte answers
pub index-found : (b : ℕ) (s : List ℕ) (r : Option ℕ)
    → MatchOption r (AllWithin (λ x. x ≢ b) s 0 (length s)) (λ i. (i < length s) × HoldsAt (λ x. x ≡ b) s i × AllWithin (λ x. x ≢ b) s 0 i)
    → index_of b s ≡ unwrap_or r (length s)
unfolding index_of
index-found b s r h =
    index_from_first (index_of b) (λ x. x ≡ b) (λ x. x ≢ b) refl (λ x xs e. rw (eq-eqb x b e)) (λ x xs n. rw (ne_eqb x b n, add-one)) s r h

pub index-within : (b : ℕ) (s : List ℕ) → index_of b s ≤ length s
unfolding index_of
index-within b [] = omega arith
index-within b (x ∷ s) = go (eqb x b) (index-within b s)
  where
    go : (t : Bool) → index_of b s ≤ length s → pick t 0 (suc (index_of b s)) ≤ suc (length s)
    go true h = omega arith
    go false h = omega arith

-- a piece lies within the text, and takes some of it
module _ (b : ℕ) (s : List ℕ) where
  pub piece-within : piece_length b s ≤ length s
  unfolding piece_length
  piece-within = go (eqb (index_of b s) (length s)) refl
    where
      go : (t : Bool) → eqb (index_of b s) (length s) ≡ t → pick t (length s) (suc (index_of b s)) ≤ length s
      go true e = omega arith
      go false e = omega (arith, index-within b s, eqb-false (index_of b s) (length s) e)

  pub piece-some : 0 < length s → 0 < piece_length b s
  unfolding piece_length
  piece-some h = go (eqb (index_of b s) (length s))
    where
      go : (t : Bool) → 0 < pick t (length s) (suc (index_of b s))
      go true = omega arith
      go false = omega arith

-- the part of a text from a place on
pub rest-is : (s : List ℕ) (at : ℕ) → take (length s - at) (drop at s) ≡ drop at s
rest-is s at = take_all (length s - at) (drop at s) (simp length-drop (omega arith))

-- the piece at a place, of n bytes
module _ (b : ℕ) (s : List ℕ) (at n : ℕ) (e : n ≡ piece_length b (take (length s - at) (drop at s))) where
  piece-at : n ≡ piece_length b (drop at s)
  piece-at = e ∙ ap (piece_length b) (rest-is s at)

  pub step-within : at ≤ length s → at + n ≤ length s
  step-within h = omega (arith, piece-at, piece-within b (drop at s), length-drop at s)

  pub step-some : at < length s → 0 < n
  step-some h = omega (arith, piece-at, piece-some b (drop at s) (omega (arith, length-drop at s)))

-- one space more: of k, i were passed, and `rest` follows them
pub step-on : (rest : List ℕ) (k i n : ℕ) → n ≡ piece_length space rest → i < k
    → after_spaces (k - i) rest ≡ after_spaces (k - (i + 1)) (take (length rest - n) (drop n rest))
unfolding after_spaces
step-on rest k i n e h =
    let z : k - i ≡ suc (k - (i + 1)) = omega arith in
    ap (λ (m : ℕ). after_spaces m rest) z ∙ ap (after_spaces (k - (i + 1))) (ap (λ (m : ℕ). drop m rest) (sym e) ∙ sym (rest-is rest n))

pub step-none : (rest : List ℕ) (k i : ℕ) → k ≤ i → rest ≡ after_spaces (k - i) rest
unfolding after_spaces
step-none rest k i h =
    let z : 0 ≡ k - i = omega arith in
    ap (λ (m : ℕ). after_spaces m rest) z

-- where there is one, the byte stands at its place
index-hit : (b : ℕ) (s : List ℕ) → index_of b s < length s → get_or s (index_of b s) 0 ≡ b
unfolding index_of
index-hit b [] h = absurd (omega arith)
index-hit b (x ∷ s) h = go (eqb x b) refl h (index-hit b s)
  where
    go : (t : Bool) → eqb x b ≡ t → pick t 0 (suc (index_of b s)) < suc (length s) → (index_of b s < length s → get_or s (index_of b s) 0 ≡ b)
        → get_or (x ∷ s) (pick t 0 (suc (index_of b s))) 0 ≡ b
    go true e l rec = eqb-true x b e
    go false e l rec = rec (omega arith)

-- what something follows is cut at a space
cut : (s : List ℕ) → 0 < length (drop (piece_length space s) s) → s ≡ up_to space s ++ (space ∷ drop (piece_length space s) s)
unfolding piece_length
cut s h = go (eqb (index_of space s) (length s)) refl h
  where
    go : (t : Bool) → eqb (index_of space s) (length s) ≡ t → 0 < length (drop (pick t (length s) (suc (index_of space s))) s)
        → s ≡ take (index_of space s) s ++ (space ∷ drop (pick t (length s) (suc (index_of space s))) s)
    go true e l = absurd (omega (arith, length-drop (length s) s))
    go false e l =
        let n : index_of space s < length s = omega (arith, index-within space s, eqb-false (index_of space s) (length s) e) in
        split_at s (index_of space s) 0 n
        ∙ ap (λ (x : ℕ). take (index_of space s) s ++ (x ∷ drop (suc (index_of space s)) s)) (index-hit space s n)

pub cut_at : (k : ℕ) (line : List ℕ) → 0 < length (after_spaces (suc k) line) → after_spaces k line ≡ part k line ++ (space ∷ after_spaces (suc k) line)
unfolding after_spaces part
cut_at zero line h = cut line h
cut_at (suc k) line h = cut_at k (drop (piece_length space line) line) h

pub some-before : (k : ℕ) (line : List ℕ) → 0 < length (after_spaces (suc k) line) → 0 < length (after_spaces k line)
some-before k line h = omega (arith, ap length (cut_at k line h), length-append (part k line) (space ∷ after_spaces (suc k) line))
