-- A state as eight words: a loop that makes them. And a round by what stands in each cell. Assumes nothing.
use mathlib.Core.Path.{◌≡◌, refl, sym, ap, subst, ◌∙◌}
use mathlib.Core.Logic.{⊎_elim}
use mathlib.Core.List.{List, [], ◌∷◌}
use Prim.Native.Nat.{ℕ, zero, suc, ◌+◌, ◌-◌, ◌*◌, ◌%◌, ◌<◌, ◌≤◌, zero-le}
use native.Mathlib.Nat.{eq-or-lt_of_le}
use native.Mathlib.Omega.{arith}
use lib.Bits.{bit_xor, xor_comm}
use lib.Dec.{lit<}
use lib.ListN.{length, get_or, set, length-set}
use lib.Seq.{get_or-set_same, get_or-set_other}
use Rattle.laws.specs.Lists.{cell, grid, tabulate}
use Rattle.laws.proofs.States.{Shape, put, Placed, Apart, place-more, columns-all, grid-at}
use Rattle.laws.proofs.Tests.{agree}
use Rattle.gf256.specs.Field.{s_box}
use Rattle.words.specs.Words.{byte_of, word_bytes}
use Rattle.round_steps.specs.Steps.{byte_sub, shift_of, shift_row, mixed_byte, mix_column, add_round_key, round_of}
use Rattle.rounds.specs.Columns.{of_words, mixed_column}
use Rattle.words.proofs.Bytes.{sum-byte, summed}

-- equal lists have equal entries
entry : {a b : List ℕ} → a ≡ b → (k : ℕ) → get_or a k 0 ≡ get_or b k 0
entry e k = ap (λ (l : List ℕ). get_or l k 0) e

-- the bytes of the first n words are columns of f
pub record Packed (f : ℕ → ℕ → ℕ) (x : List ℕ) (n : ℕ) : Type 0 where
  pub upto : n ≤ 8
  pub size : length x ≡ 8
  pub bytes : (c : ℕ) → c < n → (r : ℕ) → r < 4 → byte_of (get_or x c 0) r ≡ f r c

pub pack-none : {f : ℕ → ℕ → ℕ} {x : List ℕ} → length x ≡ 8 → Packed f x 0
pack-none e = record { upto = zero-le; size = e; bytes = λ c h. absurd (omega arith) }

-- what holds of 0, 1, 2 and 3
below-four : (P : ℕ → Type 0) → P 0 → P 1 → P 2 → P 3 → (r : ℕ) → r < 4 → P r
below-four P a b c d zero h = a
below-four P a b c d (suc zero) h = b
below-four P a b c d (suc (suc zero)) h = c
below-four P a b c d (suc (suc (suc zero))) h = d
below-four P a b c d (suc (suc (suc (suc r)))) h = absurd (omega arith)

pub pack-more : {f : ℕ → ℕ → ℕ} {x : List ℕ} {n : ℕ} → Packed f x n → n < 8 → (v : ℕ) → word_bytes v ≡ f 0 n ∷ f 1 n ∷ f 2 n ∷ f 3 n ∷ [] → Packed f (set x n v) (n + 1)
pack-more {f} {x} {n} g h v e = record { upto = omega arith; size = length-set x n v ∙ g.size; bytes = at }
  where
    l : n < length x
    l = let z : length x ≡ 8 = g.size in omega arith

    new : (r : ℕ) → r < 4 → byte_of v r ≡ f r n
    new = below-four (λ r. byte_of v r ≡ f r n) (entry e 0) (entry e 1) (entry e 2) (entry e 3)

    at : (c : ℕ) → c < n + 1 → (r : ℕ) → r < 4 → byte_of (get_or (set x n v) c 0) r ≡ f r c
    at c hc r hr = ⊎_elim same other (eq-or-lt_of_le {n = c} {m = n} (omega arith))
      where
        same : c ≡ n → byte_of (get_or (set x n v) c 0) r ≡ f r c
        same q = rw q (ap (λ (m : ℕ). byte_of m r) (get_or-set_same x n v 0 l) ∙ new r hr)

        other : c < n → byte_of (get_or (set x n v) c 0) r ≡ f r c
        other q = ap (λ (m : ℕ). byte_of m r) (get_or-set_other x n c v 0 (λ z. let y : c ≡ n = z in omega arith)) ∙ g.bytes c q r hr

shape_of : (f : ℕ → ℕ → ℕ) → Shape (grid 4 8 f)
unfolding grid tabulate
shape_of f = record { rows = refl; row = below-four (λ r. length (get_or (grid 4 8 f) r []) ≡ 8) refl refl refl refl }

pub pack-all : (f : ℕ → ℕ → ℕ) {x : List ℕ} {n : ℕ} → Packed f x n → 8 ≤ n → of_words x ≡ grid 4 8 f
unfolding of_words
pack-all f {x} {n} g h =
    columns-all {c = 8}
    (record {
      upto = omega arith;
      shape = shape_of (λ r c. byte_of (get_or x c 0) r);
      cells = λ r c hr hc p. grid-at (λ r c. byte_of (get_or x c 0) r) refl r c hr hc ∙ g.bytes c (omega arith) r hr;
    })
    (omega arith)

-- a state by its own cells
pub own-cells : {s : List (List ℕ)} → Shape s → grid 4 8 (cell s) ≡ s
own-cells {s} shape = sym (columns-all {c = 8} (record { upto = omega arith; shape = shape; cells = λ r c hr hc p. refl }) (omega arith))

-- what the initial key leaves in a cell
abbrev pub first_keyed : List ℕ → List (List ℕ) → ℕ → ℕ → ℕ
first_keyed w s r c = bit_xor (cell s r c) (byte_of (get_or w (8 * 0 + c) 0) r)

-- one word more: a column's, with its word of the key
pub keyed-more : (w : List ℕ) (s : List (List ℕ)) {x : List ℕ} {c : ℕ} → Packed (first_keyed w s) x c → c < 8 → (v : ℕ) → word_bytes v ≡ cell s 0 c ∷ cell s 1 c ∷ cell s 2 c ∷ cell s 3 c ∷ []
    → Packed (first_keyed w s) (set x c (bit_xor v (get_or w c 0))) (c + 1)
keyed-more w s {x} {c} g h v e =
    let q : 8 * 0 + c ≡ c = omega arith in
    subst (λ (m : ℕ). Packed (first_keyed w s) (set x c (bit_xor v (get_or w m 0))) (c + 1)) q (pack-more g h _ (summed v (get_or w (8 * 0 + c) 0) e refl))

-- a byte through the S-box, in its new place
abbrev pub moved : List (List ℕ) → ℕ → ℕ → ℕ
moved s r c = s_box (cell s r ((c + shift_of r) % 8))

moved-is : (s : List (List ℕ)) (r c : ℕ) → r < 4 → c < 8 → cell (shift_row (byte_sub s)) r c ≡ moved s r c
unfolding shift_row byte_sub
moved-is s r c hr hc =
    grid-at (λ r c. cell (byte_sub s) r ((c + shift_of r) % 8)) refl r c hr hc
    ∙ grid-at (λ r c. s_box (cell s r c)) refl r ((c + shift_of r) % 8) hr (omega arith)

-- a column less is left
pub fewer : (c : ℕ) → c < 8 → 8 - (c + 1) < 8 - c
fewer c h = omega arith

-- and the next one's number is small
pub small : (c : ℕ) → c < 8 → c + 1 < 18446744073709551616
small c h = omega arith

-- what the round leaves in a cell
abbrev pub rounded : List ℕ → ℕ → List (List ℕ) → ℕ → ℕ → ℕ
rounded w n s r c =
    bit_xor (mixed_byte (moved s r c) (moved s ((r + 1) % 4) c) (moved s ((r + 2) % 4) c) (moved s ((r + 3) % 4) c)) (byte_of (get_or w (8 * n + c) 0) r)

-- a byte of a mixed column, with the round's key
keyed : (r k v m b : ℕ) → byte_of v r ≡ m → b ≡ byte_of (bit_xor k v) r → b ≡ bit_xor m (byte_of k r)
keyed r k v m b e q = q ∙ sum-byte r k v ∙ ap (bit_xor (byte_of k r)) e ∙ xor_comm (byte_of k r) m

-- columns 4 to 7 first, and then 0 to 3
abbrev pub by_half : ℕ → ℕ → ℕ
by_half r c = 4 * ((c + 4) % 8) + r

half_back : (c : ℕ) → c < 8 → ((c + 4) % 8 + 4) % 8 ≡ c
half_back c h = agree (λ c. ((c + 4) % 8 + 4) % 8) (λ c. c) 0 8 tt c zero-le h

half-apart : Apart by_half
half-apart r c i k hr hc hi hk e =
    let p : (k + 4) % 8 ≡ (c + 4) % 8 = omega arith in
    (omega arith, sym (half_back k hk) ∙ ap (λ (m : ℕ). (m + 4) % 8) p ∙ half_back c hc)

-- one column more: v is the mixed column, and the bytes of its sum with the key are stored
module _ (w : List ℕ) (n : ℕ) (s : List (List ℕ)) {t : List (List ℕ)} {e : ℕ} (g : Placed by_half (rounded w n s) t (4 * e)) (h : e < 8) where
  abbrev at : ℕ
  at = (e + 4) % 8

  abbrev in-0 : ℕ
  in-0 = s_box (cell s 0 at)

  abbrev in-1 : ℕ
  in-1 = s_box (cell s 1 ((at + 1) % 8))

  abbrev in-2 : ℕ
  in-2 = s_box (cell s 2 ((at + 3) % 8))

  abbrev in-3 : ℕ
  in-3 = s_box (cell s 3 ((at + 4) % 8))

  abbrev key : ℕ
  key = get_or w (8 * n + at) 0

  pub round-more : (v : ℕ) → word_bytes v ≡ mixed_column in-0 in-1 in-2 in-3
      → (a b c d : ℕ) → a ≡ byte_of (bit_xor key v) 0 → b ≡ byte_of (bit_xor key v) 1 → c ≡ byte_of (bit_xor key v) 2 → d ≡ byte_of (bit_xor key v) 3
      → Placed by_half (rounded w n s) (put (put (put (put t 0 at a) 1 at b) 2 at c) 3 at d) (4 * (e + 1))
  round-more v m a b c d pa pb pc pd =
      let l : at < 8 = omega arith in
      let z : at ≡ (at + 0) % 8 = omega arith in
      let o : (at + 4) % 8 ≡ e = half_back e h in
      subst (λ (k : ℕ). Placed by_half (rounded w n s) (put (put (put (put t 0 at a) 1 at b) 2 at c) 3 at d) k) (omega arith)
      (place-more half-apart
      (place-more half-apart
      (place-more half-apart
      (place-more half-apart g 0 at (lit< tt) l (omega arith) (omega (arith, o)) a
      (keyed 0 key v _ a (entry m 0 ∙ (λ i. mixed_byte (s_box (cell s 0 (z i))) in-1 in-2 in-3)) pa))
      1 at (lit< tt) l (omega arith) (omega (arith, o)) b
      (keyed 1 key v _ b (entry m 1 ∙ (λ i. mixed_byte in-1 in-2 in-3 (s_box (cell s 0 (z i))))) pb))
      2 at (lit< tt) l (omega arith) (omega (arith, o)) c
      (keyed 2 key v _ c (entry m 2 ∙ (λ i. mixed_byte in-2 in-3 (s_box (cell s 0 (z i))) in-1)) pc))
      3 at (lit< tt) l (omega arith) (omega (arith, o)) d
      (keyed 3 key v _ d (entry m 3 ∙ (λ i. mixed_byte in-3 (s_box (cell s 0 (z i))) in-1 in-2)) pd))

mixed-is : (s : List (List ℕ)) (r c : ℕ) → r < 4 → c < 8
    → cell (mix_column (shift_row (byte_sub s))) r c ≡ mixed_byte (moved s r c) (moved s ((r + 1) % 4) c) (moved s ((r + 2) % 4) c) (moved s ((r + 3) % 4) c)
unfolding mix_column
mixed-is s r c hr hc =
    let t = shift_row (byte_sub s) in
    grid-at (λ r c. mixed_byte (cell t r c) (cell t ((r + 1) % 4) c) (cell t ((r + 2) % 4) c) (cell t ((r + 3) % 4) c)) refl r c hr hc
    ∙ (λ i. mixed_byte (moved-is s r c hr hc i) (moved-is s ((r + 1) % 4) c (omega arith) hc i) (moved-is s ((r + 2) % 4) c (omega arith) hc i) (moved-is s ((r + 3) % 4) c (omega arith) hc i))

pub round-all : (w : List ℕ) (n : ℕ) (s : List (List ℕ)) {t : List (List ℕ)} {e : ℕ} → Placed by_half (rounded w n s) t (4 * e) → 8 ≤ e → t ≡ round_of w n s
unfolding add_round_key
round-all w n s {t} {e} g h =
    columns-all {c = 8}
    (record {
      upto = omega arith;
      shape = g.shape;
      cells = λ r k hr hk p. g.cells r k hr hk (omega arith) ∙ ap (λ (v : ℕ). bit_xor v (byte_of (get_or w (8 * n + k) 0) r)) (sym (mixed-is s r k hr hk));
    })
    (omega arith)
