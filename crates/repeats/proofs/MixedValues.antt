-- Two initial values that differ give mixed values that differ; and mixed values are 24 bytes. Assumes nothing.
use mathlib.Core.Path.{◌≡◌, refl, sym, ap, ◌∙◌}
use mathlib.Core.Logic.{⊎_elim}
use mathlib.Core.List.{List}
use Prim.Native.Nat.{ℕ, zero, suc, ◌+◌, ◌<◌, zero-le}
use native.Mathlib.Nat.{zero-add, add-zero}
use native.Mathlib.Omega.{arith}
use borrow.Author.Tests.{ltb-true}
use lib.Bits.{bit_xor, xor_lt}
use lib.Dec.{ltb, lit<}
use lib.ListN.{length, get_or}
use lib.Seq.{ext_get_or}
use Rattle.laws.specs.Lists.{tabulate}
use Rattle.laws.proofs.Cases.{lt-or-le}
use Rattle.laws.proofs.Lists.{length-tabulate, get_d_tabulate}
use Rattle.laws.proofs.Tests.{holds}
use Rattle.laws.proofs.Xor.{xor-back}
use Rattle.gf256.specs.Field.{times}
use Rattle.tea.specs.Mixing.{expanded_byte, mixed_value}
use Rattle.tea.proofs.MixingRule.{byte-first, byte-later}
use Rattle.repeats.specs.Repeats.{Bytes}

-- ten bytes in a row are the same for both
abbrev SameFrom : List ℕ → List ℕ → ℕ → Type 0
SameFrom x y i = (k : ℕ) → k < 10 → expanded_byte x (i + k) ≡ expanded_byte y (i + k)

-- b[i] from the ten bytes after it
earlier : (iv : List ℕ) → length iv ≡ 10 → (i : ℕ)
    → expanded_byte iv i ≡ bit_xor (bit_xor (expanded_byte iv (i + 10)) (times 0xd7 (expanded_byte iv (i + 9)))) (expanded_byte iv (i + 1))
earlier iv ten i =
    sym (xor-back (expanded_byte iv i) (expanded_byte iv (i + 1)))
    ∙ ap (λ (x : ℕ). bit_xor x (expanded_byte iv (i + 1))) (sym (xor-back (bit_xor (expanded_byte iv i) (expanded_byte iv (i + 1))) (times 0xd7 (expanded_byte iv (i + 9)))))
    ∙ ap (λ (x : ℕ). bit_xor (bit_xor x (times 0xd7 (expanded_byte iv (i + 9)))) (expanded_byte iv (i + 1))) (sym (byte-later iv ten i))

module _ (x y : List ℕ) (ten : length x ≡ 10) (ten' : length y ≡ 10) where
  back : (i : ℕ) → SameFrom x y (i + 1) → expanded_byte x i ≡ expanded_byte y i
  back i h =
      let one : expanded_byte x (i + 1) ≡ expanded_byte y (i + 1) = at 0 1 (lit< tt) refl in
      let nine : expanded_byte x (i + 9) ≡ expanded_byte y (i + 9) = at 8 9 (lit< tt) refl in
      let last : expanded_byte x (i + 10) ≡ expanded_byte y (i + 10) = at 9 10 (lit< tt) refl in
      earlier x ten i ∙ (λ j. bit_xor (bit_xor (last j) (times 0xd7 (nine j))) (one j)) ∙ sym (earlier y ten' i)
    where
      at : (k m : ℕ) → k < 10 → 1 + k ≡ m → expanded_byte x (i + m) ≡ expanded_byte y (i + m)
      at k m l e =
          let z : i + 1 + k ≡ i + m = omega arith in
          ap (expanded_byte x) (sym z) ∙ h k l ∙ ap (expanded_byte y) z

  down : (i : ℕ) → SameFrom x y i → SameFrom x y 0
  down zero h = h
  down (suc i) h = down i go
    where
      h' : SameFrom x y (i + 1)
      h' k l = let z : i + 1 + k ≡ suc i + k = omega arith in ap (expanded_byte x) z ∙ h k l ∙ ap (expanded_byte y) (sym z)

      go : SameFrom x y i
      go zero l = ap (expanded_byte x) (add-zero i) ∙ back i h' ∙ ap (expanded_byte y) (sym (add-zero i))
      go (suc k) l = let z : i + suc k ≡ suc i + k = omega arith in ap (expanded_byte x) z ∙ h k (omega arith) ∙ ap (expanded_byte y) (sym z)

  -- the first ten bytes of the mixed value alone tell the initial value
  pub mixed-apart : mixed_value x ≡ mixed_value y → x ≡ y
  unfolding mixed_value
  mixed-apart e =
      ext_get_or 0 x y (ten ∙ sym ten')
      (λ k l.
      let h : k < 10 = omega arith in
      sym (byte-first x ten k h) ∙ (ap (expanded_byte x) (sym (zero-add k)) ∙ down 20 from20 k h ∙ ap (expanded_byte y) (zero-add k)) ∙ byte-first y ten' k h)
    where
      from20 : SameFrom x y 20
      from20 k l =
          let entry : (z : List ℕ) → get_or (tabulate (λ j. expanded_byte z (20 + j)) 0 24) k 0 ≡ expanded_byte z (20 + k) =
          λ z. get_d_tabulate (λ j. expanded_byte z (20 + j)) 0 24 k 0 (omega arith) ∙ ap (λ (j : ℕ). expanded_byte z (20 + j)) (zero-add k) in
          sym (entry x) ∙ ap (λ (v : List ℕ). get_or v k 0) e ∙ entry y

-- mixed bytes are bytes

product_lt : (b : ℕ) → b < 256 → times 0xd7 b < 256
unfolding times
product_lt b h = ltb-true (times 0xd7 b) 256 (holds (λ k. ltb (times 0xd7 k) 256) 0 256 tt b zero-le (omega arith))

bytes-from : (iv : List ℕ) → length iv ≡ 10 → Bytes iv → (i k : ℕ) → k < 10 → expanded_byte iv (i + k) < 256
bytes-from iv ten small zero k h = rw (zero-add k, byte-first iv ten k h) (small k)
bytes-from iv ten small (suc i) k h =
    ⊎_elim
    (λ l. let z : suc i + k ≡ i + suc k = omega arith in rw z (bytes-from iv ten small i (suc k) (omega arith)))
    (λ l.
    let z : suc i + k ≡ i + 10 = omega arith in
    let first : expanded_byte iv i < 256 = rw add-zero at (bytes-from iv ten small i 0 (lit< tt)) in
    rw (z, byte-later iv ten i)
    (xor_lt 8 _ _ (xor_lt 8 _ _ first (bytes-from iv ten small i 1 (lit< tt)))
    (product_lt _ (bytes-from iv ten small i 9 (lit< tt)))))
    (lt-or-le k 9)

mixed-entry : (iv : List ℕ) (k : ℕ) → k < 24 → get_or (mixed_value iv) k 0 ≡ expanded_byte iv (20 + k)
unfolding mixed_value
mixed-entry iv k h = get_d_tabulate (λ j. expanded_byte iv (20 + j)) 0 24 k 0 h ∙ ap (λ (j : ℕ). expanded_byte iv (20 + j)) (zero-add k)

pub length-mixed : (iv : List ℕ) → length (mixed_value iv) ≡ 24
unfolding mixed_value
length-mixed iv = length-tabulate _ 0 24

pub mixed-small : (iv : List ℕ) → length iv ≡ 10 → Bytes iv → (k : ℕ) → k < 24 → get_or (mixed_value iv) k 0 < 256
mixed-small iv ten small k h = rw (mixed-entry iv k h, (let z : 20 + k ≡ (20 + k) + 0 = omega arith in z)) (bytes-from iv ten small (20 + k) 0 (lit< tt))
