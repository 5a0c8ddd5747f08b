-- In one keystream no two whole blocks are equal: for every algorithm, key and initial value. Assumes nothing.
use mathlib.Core.Path.{◌≡◌, refl, sym, ◌∙◌}
use mathlib.Core.Logic.{◌⊎◌, inl, inr, ⊎_elim}
use mathlib.Core.List.{List}
use Prim.Native.Nat.{ℕ, zero, suc, ◌+◌, ◌*◌, ◌/◌, ◌%◌, ◌<◌}
use native.Mathlib.Omega.{arith}
use Rattle.laws.specs.Bits.{bit_at}
use Rattle.laws.proofs.Bits.{bytes-are-bits}
use Rattle.laws.proofs.Cases.{lt-or-le, eq-or-ne}
use Rattle.span.specs.Span.{stream_bit}
use Rattle.tea.specs.declared.mode.Mode.{Mode}
use Rattle.tea.specs.Mode.{mode_of}
use Rattle.tea.specs.Keystream.{block_of}
use Rattle.keystream.specs.Stream.{keystream}
use Rattle.both_ways.specs.Block.{Block}
use Rattle.both_ways.proofs.Blocks.{cipher-block, cipher-apart}
use Rattle.repeats.specs.Repeats.{Whole, Differ}
use Rattle.repeats.proofs.Plaintexts.{GoodMode, plaintext-block, number-told, mode-good}

made-block : {m : Mode} → GoodMode m → (j : ℕ) → Block (block_of m j)
unfolding block_of
made-block {m} g j = cipher-block m.key (plaintext-block g j)

-- the blocks of two numbers of 32 bits that differ are not equal
pub blocks-apart : {m : Mode} → GoodMode m → (r q : ℕ) → r < 4294967296 → q < 4294967296 → block_of m r ≡ block_of m q → r ≡ q
unfolding block_of
blocks-apart {m} g r q hr hq e = number-told m.value m.digit r q hr hq (cipher-apart m.key (plaintext-block g r) (plaintext-block g q) e)

-- a block is its 256 bits
same_block : {a b : List ℕ} → Block a → Block b → ((i : ℕ) → i < 256 → bit_at a i ≡ bit_at b i) → a ≡ b
same_block {a} {b} p q e = bytes-are-bits a (bit_at b) 32 p.long p.bytes e ∙ sym (bytes-are-bits b (bit_at b) 32 q.long q.bytes (λ j h. refl))

-- a bit of a whole block
bit-of-block : (b : ℕ → List ℕ) (r i : ℕ) → i < 256 → stream_bit b (256 * r + i) ≡ bit_at (b r) i
unfolding stream_bit
bit-of-block b r i h =
    let p : (256 * r + i) / 256 ≡ r = omega arith in
    let q : (256 * r + i) % 256 ≡ i = omega arith in
    λ j. bit_at (b (p j)) (q j)

-- two runs of n values are the same, or a place is found where they are not
record Found (f g : ℕ → ℕ) (n : ℕ) : Type 0 where
  place : ℕ
  below : place < n
  differ : f place ≡ g place → ⊥

look : (f g : ℕ → ℕ) (n : ℕ) → ((i : ℕ) → i < n → f i ≡ g i) ⊎ Found f g n
look f g zero = inl (λ i h. absurd (omega arith))
look f g (suc n) = ⊎_elim same (λ x. let h = x.below in inr (record { place = x.place; below = omega arith; differ = x.differ })) (look f g n)
  where
    same : ((i : ℕ) → i < n → f i ≡ g i) → ((i : ℕ) → i < suc n → f i ≡ g i) ⊎ Found f g (suc n)
    same s =
        ⊎_elim (λ e. inl (λ i h. ⊎_elim (s i) (λ l. let z : i ≡ n = omega arith in rw z e) (lt-or-le i n)))
        (λ d. inr (record { place = n; below = omega arith; differ = d })) (eq-or-ne (f n) (g n))

-- No two different whole blocks of a keystream are equal: there is a bit in which they differ.
pub no-block-twice : (algorithm : ℕ) (ck iv : List ℕ) (r q : ℕ) → Whole r → Whole q → (r ≡ q → ⊥) → Differ (keystream algorithm ck iv) r q
no-block-twice algorithm ck iv r q hr hq ne =
    ⊎_elim (λ same. absurd (ne (blocks-apart g r q (omega arith) (omega arith) (same_block (made-block g r) (made-block g q) (bits same)))))
    (λ x. record { bit = x.place; inside = x.below; apart = x.differ })
    (look (λ i. k (256 * r + i)) (λ i. k (256 * q + i)) 256)
  where
    k : ℕ → ℕ
    k = keystream algorithm ck iv

    g : GoodMode (mode_of algorithm ck iv)
    g = mode-good algorithm ck iv

    bits : ((i : ℕ) → i < 256 → keystream algorithm ck iv (256 * r + i) ≡ keystream algorithm ck iv (256 * q + i)) → (i : ℕ) → i < 256 → bit_at (block_of (mode_of algorithm ck iv) r) i ≡ bit_at (block_of (mode_of algorithm ck iv) q) i
    bits same i h = sym (bit-of-block (block_of (mode_of algorithm ck iv)) r i h) ∙ same i h ∙ bit-of-block (block_of (mode_of algorithm ck iv)) q i h
