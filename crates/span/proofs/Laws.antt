-- Laws of a run of bits that is xored or written, for the proofs of callers. Assumes nothing.
use mathlib.Core.Path.{◌≡◌, refl, sym, ap, ◌∙◌}
use mathlib.Core.Logic.{⊎_elim}
use mathlib.Core.List.{List}
use Prim.Native.Nat.{ℕ, ◌+◌, ◌-◌, ◌*◌, ◌<◌}
use native.Mathlib.Omega.{arith}
use lib.Bits.{bit_xor}
use lib.ListN.{length, get_or}
use Rattle.laws.specs.Bits.{bit_at, bytes_of_bits}
use Rattle.laws.proofs.Cases.{lt-or-le}
use Rattle.laws.proofs.Bits.{at_lt, at-past, length-bytes, bytes_lt, bytes-ext, bytes-are-bits, bits_of_bytes}
use Rattle.span.specs.Span.{in_run, span_bit, put_bit, xored, written, zeroed, nought}
use Rattle.span.proofs.Within.{Binary, Beside, within_in, within-out, within_same, within-join, span-lt, put-lt, nought-lt, span-join, span-swap, span-twice, span-cleared}

-- a list of bytes
abbrev pub Bytes : List ℕ → Type 0
Bytes l = (q : ℕ) → get_or l q 0 < 256

-- the length stays

pub length-xored : (l : List ℕ) (k : ℕ → ℕ) (off from n : ℕ) → length (xored l k off from n) ≡ length l
unfolding xored
length-xored l k off from n = length-bytes _ (length l)

pub length-written : (l : List ℕ) (k : ℕ → ℕ) (off from n : ℕ) → length (written l k off from n) ≡ length l
unfolding written
length-written l k off from n = length-bytes _ (length l)

-- a run of no bits changes nothing

none : (l : List ℕ) (inside : ℕ → ℕ) (off : ℕ) → Bytes l → bytes_of_bits (λ j. in_run off 0 j (inside j) (bit_at l j)) (length l) ≡ l
none l inside off small =
    sym (bytes-are-bits l _ (length l) refl small (λ j h. sym (within-out off 0 j (inside j) (bit_at l j) (λ u. omega arith))))

pub xored-none : (l : List ℕ) (k : ℕ → ℕ) (off from : ℕ) → Bytes l → xored l k off from 0 ≡ l
unfolding xored span_bit
xored-none l k off from = none l _ off

pub written_none : (l : List ℕ) (k : ℕ → ℕ) (off from : ℕ) → Bytes l → written l k off from 0 ≡ l
unfolding written put_bit
written_none l k off from = none l _ off

-- two streams that agree on the run
pub xored-same : (l : List ℕ) (k s : ℕ → ℕ) (off from at n : ℕ) → ((i : ℕ) → i < n → k (from + i) ≡ s (at + i)) → xored l k off from n ≡ xored l s off at n
unfolding xored span_bit
xored-same l k s off from at n e =
    bytes-ext _ _ (length l) (λ j h. within_same off n j (λ u v. ap (bit_xor (bit_at l j)) (e (j - off) (omega arith))) (λ u. refl))

-- bits p as bytes, and then xored
over-bits : (p k : ℕ → ℕ) (size off from n : ℕ) → Binary p → xored (bytes_of_bits p size) k off from n ≡ bytes_of_bits (span_bit p k off from n) size
unfolding xored span_bit
over-bits p k size off from n small =
    ap (bytes_of_bits _) (length-bytes p size)
    ∙ bytes-ext _ _ size (λ j h. ap (λ (x : ℕ). in_run off n j (bit_xor x (k (from + (j - off)))) x) (bits_of_bytes p size small j h))

-- bits p as bytes, where p has the bit of l
kept : (l : List ℕ) (p : ℕ → ℕ) (j : ℕ) → Binary p → p j ≡ bit_at l j → bit_at (bytes_of_bits p (length l)) j ≡ bit_at l j
kept l p j small e =
    ⊎_elim
    (λ u. bits_of_bytes p (length l) small j u ∙ e)
    (λ u. at-past (bytes_of_bits p (length l)) j (omega (arith, length-bytes p (length l))) ∙ sym (at-past l j u))
    (lt-or-le j (8 * length l))

module _ (k : ℕ → ℕ) (binary : Binary k) (l : List ℕ) (off from n : ℕ) where
  -- what comes out is bytes

  pub xored-bytes : Bytes (xored l k off from n)
  unfolding xored
  xored-bytes = bytes_lt _ (length l) (span-lt off from n (at_lt l) binary)

  pub written-bytes : Bytes (written l k off from n)
  unfolding written
  written-bytes = bytes_lt _ (length l) (put-lt off from n (at_lt l) binary)

  -- each bit of the buffer

  pub xored-bit : (j : ℕ) → j < 8 * length l → bit_at (xored l k off from n) j ≡ span_bit (bit_at l) k off from n j
  unfolding xored
  xored-bit = bits_of_bytes _ (length l) (span-lt off from n (at_lt l) binary)

  pub written-bit : (j : ℕ) → j < 8 * length l → bit_at (written l k off from n) j ≡ put_bit (bit_at l) k off from n j
  unfolding written
  written-bit = bits_of_bytes _ (length l) (put-lt off from n (at_lt l) binary)

  -- inside the run: bit off + i is itself xor bit from + i of the stream, or is that bit

  pub xored-inside : (i : ℕ) → i < n → off + i < 8 * length l → bit_at (xored l k off from n) (off + i) ≡ bit_xor (bit_at l (off + i)) (k (from + i))
  unfolding span_bit
  xored-inside i h fits =
      let e : off + i - off ≡ i = omega arith in
      xored-bit (off + i) fits ∙ within_in off n (off + i) _ _ (omega arith) (omega arith) ∙ rw e

  pub written-inside : (i : ℕ) → i < n → off + i < 8 * length l → bit_at (written l k off from n) (off + i) ≡ k (from + i)
  unfolding put_bit
  written-inside i h fits =
      let e : off + i - off ≡ i = omega arith in
      written-bit (off + i) fits ∙ within_in off n (off + i) _ _ (omega arith) (omega arith) ∙ rw e

  -- beside the run every bit is what it was

  pub xored-outside : (j : ℕ) → Beside off n j → bit_at (xored l k off from n) j ≡ bit_at l j
  unfolding xored span_bit
  xored-outside j h = kept l _ j (span-lt off from n (at_lt l) binary) (within-out off n j _ _ h)

  pub written-outside : (j : ℕ) → Beside off n j → bit_at (written l k off from n) j ≡ bit_at l j
  unfolding written put_bit
  written-outside j h = kept l _ j (put-lt off from n (at_lt l) binary) (within-out off n j _ _ h)

  -- the run and then the m bits that follow it are one run
  pub xored-join : (m : ℕ) → xored (xored l k off from n) k (off + n) (from + n) m ≡ xored l k off from (n + m)
  unfolding xored
  xored-join m =
      over-bits (span_bit (bit_at l) k off from n) k (length l) (off + n) (from + n) m (span-lt off from n (at_lt l) binary)
      ∙ bytes-ext _ _ (length l) (λ j h. span-join (bit_at l) k off from n m j)

  -- the same run twice gives the buffer back
  pub xored-twice : Bytes l → xored (xored l k off from n) k off from n ≡ l
  unfolding xored
  xored-twice small =
      over-bits (span_bit (bit_at l) k off from n) k (length l) off from n (span-lt off from n (at_lt l) binary)
      ∙ sym (bytes-are-bits l _ (length l) refl small (λ j h. sym (span-twice (bit_at l) k off from n j)))

-- two runs change places
pub xored-swap : (l : List ℕ) (k s : ℕ → ℕ) (off from n off₂ from₂ n₂ : ℕ) → Binary k → Binary s
    → xored (xored l k off from n) s off₂ from₂ n₂ ≡ xored (xored l s off₂ from₂ n₂) k off from n
unfolding xored
xored-swap l k s off from n off₂ from₂ n₂ hk hs =
    over-bits (span_bit (bit_at l) k off from n) s (length l) off₂ from₂ n₂ (span-lt off from n (at_lt l) hk)
    ∙ bytes-ext _ _ (length l) (λ j h. span-swap (bit_at l) k s off from n off₂ from₂ n₂ j)
    ∙ sym (over-bits (span_bit (bit_at l) s off₂ from₂ n₂) k (length l) off from n (span-lt off₂ from₂ n₂ (at_lt l) hs))

-- bits that are zeroed and then xored are the stream's
pub xored-cleared : (l : List ℕ) (k : ℕ → ℕ) (off from n : ℕ) → xored (zeroed l off n) k off from n ≡ written l k off from n
unfolding written
xored-cleared l k off from n =
    over-bits (put_bit (bit_at l) nought off 0 n) k (length l) off from n (put-lt off 0 n (at_lt l) nought-lt)
    ∙ bytes-ext _ _ (length l) (λ j h. span-cleared (bit_at l) k off from n j)

-- the run zeroed and then the m bits that follow it are one run zeroed
pub cleared-join : (l : List ℕ) (off n m : ℕ) → zeroed (zeroed l off n) (off + n) m ≡ zeroed l off (n + m)
unfolding written put_bit nought
cleared-join l off n m =
    ap (bytes_of_bits _) (length-bytes _ (length l))
    ∙ bytes-ext _ _ (length l)
    (λ j h.
    ap (in_run (off + n) m j 0) (written-bit nought nought-lt l off 0 n j h)
    ∙ within-join off n m j (bit_at l j) (λ u. refl))
