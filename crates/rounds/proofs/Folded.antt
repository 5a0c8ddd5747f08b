-- The words of the table: those of four bytes make the mixed column of their S-box values. Assumes nothing.
use mathlib.Core.List.{[], ◌∷◌}
use mathlib.Core.Path.{◌≡◌, sym, ap, ◌∙◌}
use Prim.Native.Nat.{ℕ, ◌+◌, ◌<◌}
use lib.Bits.{bit_xor, xor_comm}
use Rattle.laws.proofs.Xor.{xor_assoc}
use Rattle.gf256.specs.Field.{times, s_box}
use Rattle.gf256.proofs.Bounds.{times-lt, s-box-lt}
use Rattle.products.specs.Products.{share}
use Rattle.words.specs.Words.{join, word_bytes}
use Rattle.words.proofs.Bytes.{joined, summed}
use Rattle.round_steps.specs.Steps.{mixed_byte}
use Rattle.rounds.specs.Columns.{mixed_column}

-- the first of four goes last
turn : (a b c d : ℕ) → bit_xor (bit_xor (bit_xor a b) c) d ≡ bit_xor (bit_xor (bit_xor b c) d) a
turn a b c d =
    ap (λ (x : ℕ). bit_xor x d) (xor_assoc a b c ∙ xor_comm a (bit_xor b c))
    ∙ xor_assoc (bit_xor b c) a d
    ∙ ap (bit_xor (bit_xor b c)) (xor_comm a d)
    ∙ sym (xor_assoc (bit_xor b c) d a)

-- the first two, and the first three
half : (a b c d : ℕ) → bit_xor (bit_xor (bit_xor a b) c) d ≡ bit_xor (bit_xor (bit_xor c d) a) b
half a b c d = turn a b c d ∙ turn b c d a

turned : (a b c d : ℕ) → bit_xor (bit_xor (bit_xor a b) c) d ≡ bit_xor (bit_xor (bit_xor d a) b) c
turned a b c d = half a b c d ∙ turn c d a b

-- the words of four bytes make the mixed column of their S-box values
module _ (x y z u : ℕ) (hx : x < 256) (hy : y < 256) (hz : z < 256) (hu : u < 256) where
  -- the word of byte b in row r
  abbrev placed : ℕ → ℕ → ℕ
  placed b r = join (share (s_box b) (r + 3)) (share (s_box b) (r + 2)) (share (s_box b) (r + 1)) (share (s_box b) r)

  pub column : (v : ℕ) → v ≡ bit_xor (bit_xor (bit_xor (placed x 0) (placed y 1)) (placed z 2)) (placed u 3)
      → word_bytes v ≡ mixed_column (s_box x) (s_box y) (s_box z) (s_box u)
  unfolding share mixed_byte
  column v e =
      let a = s-box-lt x hx in
      let b = s-box-lt y hy in
      let c = s-box-lt z hz in
      let d = s-box-lt u hu in
      ap word_bytes e
      ∙ summed (bit_xor (bit_xor (placed x 0) (placed y 1)) (placed z 2)) (placed u 3)
      (summed (bit_xor (placed x 0) (placed y 1)) (placed z 2)
      (summed (placed x 0) (placed y 1)
      (joined _ _ _ _ (times-lt 2 _ a) a a (times-lt 3 _ a))
      (joined _ _ _ _ (times-lt 3 _ b) (times-lt 2 _ b) b b))
      (joined _ _ _ _ c (times-lt 3 _ c) (times-lt 2 _ c) c))
      (joined _ _ _ _ d d (times-lt 3 _ d) (times-lt 2 _ d))
      ∙ (λ i.
      mixed_byte (s_box x) (s_box y) (s_box z) (s_box u)
      ∷ turn (s_box x) (times 2 (s_box y)) (times 3 (s_box z)) (s_box u) i
      ∷ half (s_box x) (s_box y) (times 2 (s_box z)) (times 3 (s_box u)) i
      ∷ turned (times 3 (s_box x)) (s_box y) (s_box z) (times 2 (s_box u)) i
      ∷ [])
