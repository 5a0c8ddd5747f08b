-- The rule of the mixed bytes: the first ten are the initial value's, and each later one comes from three before it. Assumes nothing.
use mathlib.Core.Path.{◌≡◌, sym, ap, ◌∙◌}
use mathlib.Core.List.{List}
use Prim.Native.Nat.{ℕ, ◌+◌, ◌-◌, ◌<◌, ◌≤◌}
use native.Mathlib.Nat.{add-zero}
use native.Mathlib.Omega.{arith}
use lib.Dec.{lit<}
use lib.Bits.{bit_xor}
use lib.ListN.{length, get_or, set}
use lib.Seq.{get_or-set_same}
use Rattle.laws.specs.Lists.{Filled}
use Rattle.laws.proofs.Lists.{fill_more}
use Rattle.laws.proofs.Windows.{window-at, sequence-first, sequence-next}
use Rattle.gf256.specs.Field.{times}
use Rattle.tea.specs.Mixing.{mixed, expanded_byte}

module _ (iv : List ℕ) (ten : length iv ≡ 10) where
  pub byte-first : (i : ℕ) → i < 10 → expanded_byte iv i ≡ get_or iv i 0
  unfolding expanded_byte
  byte-first i h = sequence-first _ iv 9 ten i h

  pub byte-later : (i : ℕ) → expanded_byte iv (i + 10) ≡ mixed (expanded_byte iv i) (expanded_byte iv (i + 1)) (expanded_byte iv (i + 9))
  unfolding expanded_byte
  byte-later i =
      sequence-next _ iv 9 ten i
      ∙ rw (window-at _ iv 9 ten i 0 (lit< tt), window-at _ iv 9 ten i 1 (lit< tt), window-at _ iv 9 ten i 9 (lit< tt), add-zero)

  -- what is made of bytes that are right is the next one
  pub byte_next : (b : List ℕ) (i : ℕ) → Filled (expanded_byte iv) 0 44 b i → 10 ≤ i
      → mixed (get_or b (i - 10) 0) (get_or b (i - 9) 0) (get_or b (i - 1) 0) ≡ expanded_byte iv i
  byte_next b i g h =
      let p : i - 10 + 10 ≡ i = omega arith in
      let q : i - 10 + 1 ≡ i - 9 = omega arith in
      let r : i - 10 + 9 ≡ i - 1 = omega arith in
      rw (g.entries (i - 10) (omega arith), g.entries (i - 9) (omega arith), g.entries (i - 1) (omega arith))
      (sym (ap (expanded_byte iv) (sym p) ∙ byte-later (i - 10) ∙ rw (q, r)))

  -- one byte more
  pub byte_more : (b : List ℕ) (i two one m : ℕ) → Filled (expanded_byte iv) 0 44 b i → 10 ≤ i → i < 44 → two ≡ bit_xor (get_or b (i - 10) 0) (get_or b (i - 9) 0) → one ≡ get_or b (i - 1) 0 → m ≡ times 0xd7 one
      → Filled (expanded_byte iv) 0 44 (set b i (bit_xor two m)) (i + 1)
  byte_more b i two one m g l h t p q = fill_more g h _ ((λ j. bit_xor (t j) ((q ∙ ap (times 0xd7) p) j)) ∙ byte_next b i g l)

  -- the first ten bytes are the initial value's
  pub byte-same : (b : List ℕ) → Filled (expanded_byte iv) 0 44 b 10 → (k : ℕ) → k < 10 → get_or iv k 0 ≡ get_or b k 0
  byte-same b g k h = sym (g.entries k h ∙ byte-first k h)

-- a byte that was stored is the one before the next
pub last-is : (b : List ℕ) (i v : ℕ) → i < length b → v ≡ get_or (set b i v) (i + 1 - 1) 0
last-is b i v h = let q : i + 1 - 1 ≡ i = omega arith in rw q (sym (get_or-set_same b i v 0 h))

-- the two bytes for the turn after
pub two-are : (b : List ℕ) (i : ℕ) → 10 ≤ i → bit_xor (get_or b (i - 9) 0) (get_or b (i - 8) 0) ≡ bit_xor (get_or b (i + 1 - 10) 0) (get_or b (i + 1 - 9) 0)
two-are b i h =
    let p : i - 9 ≡ i + 1 - 10 = omega arith in
    let q : i - 8 ≡ i + 1 - 9 = omega arith in
    λ j. bit_xor (get_or b (p j) 0) (get_or b (q j) 0)
