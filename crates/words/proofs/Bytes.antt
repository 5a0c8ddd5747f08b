-- The four bytes of a word: of one that was joined, and of a sum of two. Assumes nothing.
use mathlib.Core.List.{[], ◌∷◌}
use mathlib.Core.Path.{◌≡◌, ap, ◌∙◌}
use Prim.Native.Nat.{ℕ, zero, suc, ◌+◌, ◌*◌, ◌/◌, ◌%◌, ◌^◌, ◌<◌}
use native.Mathlib.Omega.{arith}
use lib.Bits.{bit_xor, xor_shr, xor_mod}
use lib.ListN.{get_or}
use Rattle.words.specs.Words.{join, byte_of, word_bytes}

low : (q a b : ℕ) → q ≡ a * 256 + b → b < 256 → q % 256 ≡ b
low q a b e h = omega arith

pub joined : (a b c d : ℕ) → a < 256 → b < 256 → c < 256 → d < 256 → word_bytes (join a b c d) ≡ a ∷ b ∷ c ∷ d ∷ []
joined a b c d ha hb hc hd =
    let p : join a b c d / 16777216 ≡ a = omega arith in
    let q : join a b c d / 65536 ≡ a * 256 + b = omega arith in
    let r : join a b c d / 256 ≡ a * 65536 + b * 256 + c = omega arith in
    let s : join a b c d / 1 ≡ join a b c d = omega arith in
    λ i.
    low _ 0 a (p ∙ omega arith) ha i
    ∷ low _ a b q hb i
    ∷ low _ (a * 256 + b) c (r ∙ omega arith) hc i
    ∷ low _ (a * 65536 + b * 256 + c) d (s ∙ omega arith) hd i
    ∷ []

sum-at : (k x y : ℕ) → bit_xor x y / 2 ^ k % 256 ≡ bit_xor (x / 2 ^ k % 256) (y / 2 ^ k % 256)
sum-at k x y = ap (λ (z : ℕ). z % 256) (xor_shr x y k) ∙ xor_mod (x / 2 ^ k) (y / 2 ^ k) 8

-- byte by byte
pub sum-byte : (r x y : ℕ) → byte_of (bit_xor x y) r ≡ bit_xor (byte_of x r) (byte_of y r)
sum-byte zero = sum-at 24
sum-byte (suc zero) = sum-at 16
sum-byte (suc (suc zero)) = sum-at 8
sum-byte (suc (suc (suc zero))) = sum-at 0
sum-byte (suc (suc (suc (suc r)))) = sum-at 0

pub summed : (x y : ℕ) {a b c d e f g h : ℕ} → word_bytes x ≡ a ∷ b ∷ c ∷ d ∷ [] → word_bytes y ≡ e ∷ f ∷ g ∷ h ∷ []
    → word_bytes (bit_xor x y) ≡ bit_xor a e ∷ bit_xor b f ∷ bit_xor c g ∷ bit_xor d h ∷ []
summed x y p q =
    (λ i. sum-byte 0 x y i ∷ sum-byte 1 x y i ∷ sum-byte 2 x y i ∷ sum-byte 3 x y i ∷ [])
    ∙ (λ i. bit_xor (get_or (p i) 0 0) (get_or (q i) 0 0) ∷ bit_xor (get_or (p i) 1 0) (get_or (q i) 1 0) ∷ bit_xor (get_or (p i) 2 0) (get_or (q i) 2 0) ∷ bit_xor (get_or (p i) 3 0) (get_or (q i) 3 0) ∷ [])
