-- What the stores of bytes do to the bits of a buffer. Assumes nothing.
use mathlib.Core.Path.{◌≡◌, sym, ap, ◌∙◌}
use mathlib.Core.Logic.{⊎_elim}
use mathlib.Core.List.{List, [], ◌∷◌, ◌++◌}
use Prim.Native.Nat.{ℕ, zero, suc, ◌+◌, ◌-◌, ◌*◌, ◌/◌, ◌%◌, ◌^◌, ◌<◌, ◌≤◌}
use native.Mathlib.Nat.{mod-lt, mod-le, lt_of_le_of_lt, mod-eq_of_lt, one-mul, zero-add}
use native.Mathlib.Omega.{arith}
use lib.Bits.{bit_xor, xor_lt}
use lib.ListN.{length, get_or, set, drop, replicate, length-set}
use lib.Dec.{lit<}
use lib.Pow.{shr-shr, pow_mono}
use lib.Seq.{get_or-set_other, paste, paste-zero, paste-suc, take_all}
use Rattle.std.proofs.lemmas.List.{length-replicate, get_or-replicate}
use Rattle.laws.specs.Bits.{bit_of, bit_at, byte_of_bits}
use Rattle.laws.proofs.Cases.{below-eight, lt-or-le}
use Rattle.laws.proofs.Bits.{bit-xor, low-kept, low-gone, high-kept, high-gone, at_byte, byte-is-bits, bits-of-byte, byte-lt, byte-ext, set-bytes}
use Rattle.span.specs.Span.{span_bit, put_bit, xored, written, zeroed, nought}
use Rattle.span.proofs.Within.{Binary, Beside, within_in, within-out, in-or-out, nought-lt}
use Rattle.span.proofs.Laws.{Bytes, written_none, length-xored, length-written, xored-bytes, written-bytes, xored-join, cleared-join}

-- byte y xor eight bits of a stream
pub set-xored : (l : List ℕ) (k : ℕ → ℕ) (from y : ℕ) → Binary k → y < length l → Bytes l
    → set l y (bit_xor (get_or l y 0) (byte_of_bits (λ t. k (from + t)))) ≡ xored l k (8 * y) from 8
unfolding xored span_bit
set-xored l k from y binary h small =
    set-bytes l (span_bit (bit_at l) k (8 * y) from 8) y _ h small
    (sym (byte-is-bits (bit_xor x b) (xor_lt 8 x b (small y) (byte-lt _ (λ t. binary _)))) ∙ byte-ext (bit_of (bit_xor x b)) _ bit)
    (λ j ne. sym (within-out (8 * y) 8 j _ _ (λ u. omega (arith, ne))))
  where
    x : ℕ
    x = get_or l y 0

    b : ℕ
    b = byte_of_bits (λ t. k (from + t))

    bit : (t : ℕ) → t < 8 → bit_of (bit_xor x b) t ≡ span_bit (bit_at l) k (8 * y) from 8 (8 * y + t)
    bit t u =
        let e : 8 * y + t - 8 * y ≡ t = omega arith in
        bit-xor x b t
        ∙ ap (λ (z : ℕ). bit_xor z (bit_of b t)) (sym (at_byte l y t u))
        ∙ ap (bit_xor (bit_at l (8 * y + t))) (bits-of-byte _ (λ s. binary _) t u)
        ∙ sym (within_in (8 * y) 8 (8 * y + t) _ _ (omega arith) (omega arith) ∙ rw e)

-- byte y with its n bits from bit a on zeroed
set-cleared : (l : List ℕ) (y v a n : ℕ) → y < length l → Bytes l → v < 256 → a + n ≤ 8
    → ((t : ℕ) → t < 8 → a ≤ t → t < a + n → bit_of v t ≡ 0) → ((t : ℕ) → t < 8 → Beside a n t → bit_of v t ≡ bit_of (get_or l y 0) t)
    → set l y v ≡ zeroed l (8 * y + a) n
unfolding written put_bit nought
set-cleared l y v a n h small hv fits gone kept =
    set-bytes l (put_bit (bit_at l) nought (8 * y + a) 0 n) y v h small
    (sym (byte-is-bits v hv) ∙ byte-ext (bit_of v) _ bit)
    (λ j ne. sym (within-out (8 * y + a) n j _ _ (λ u. omega (arith, ne))))
  where
    bit : (t : ℕ) → t < 8 → bit_of v t ≡ put_bit (bit_at l) nought (8 * y + a) 0 n (8 * y + t)
    bit t u =
        in-or-out a n t
        (λ w z. gone t u w z ∙ sym (within_in (8 * y + a) n (8 * y + t) _ _ (omega arith) (omega arith)))
        (λ w. kept t u w ∙ sym (at_byte l y t u) ∙ sym (within-out (8 * y + a) n (8 * y + t) _ _ (λ z. omega (arith, w (omega arith)))))

-- the first o bits of byte y zeroed
pub front-cleared : (l : List ℕ) (y o : ℕ) → y < length l → Bytes l → o ≤ 8 → set l y (get_or l y 0 % 2 ^ (8 - o)) ≡ zeroed l (8 * y) o
front-cleared l y o h small fits =
    set-cleared l y _ 0 o h small (lt_of_le_of_lt (mod-le _ _) (small y)) (omega arith)
    (λ t u w z. low-gone (get_or l y 0) (8 - o) t (omega arith))
    (λ t u w. low-kept (get_or l y 0) (8 - o) t u (omega (arith, w (omega arith))))
    ∙ ap (λ (m : ℕ). zeroed l m o) (omega arith)

-- the bits of byte y from bit o on zeroed
back-cleared : (l : List ℕ) (y o : ℕ) → y < length l → Bytes l → o < 8
    → set l y (bit_xor (get_or l y 0) (get_or l y 0 % 2 ^ (8 - o))) ≡ zeroed l (8 * y + o) (8 - o)
back-cleared l y o h small fits =
    let x = get_or l y 0 in
    set-cleared l y _ o (8 - o) h small (xor_lt 8 x _ (small y) (lt_of_le_of_lt (mod-le _ _) (small y))) (omega arith)
    (λ t u w z. high-gone x (8 - o) t u (omega arith))
    (λ t u w. high-kept x (8 - o) t (⊎_elim (λ a. omega arith) (λ a. absurd (omega (arith, w a))) (lt-or-le t o)))

-- eight bits zeroed: the last bits of one byte, and the first ones of the next
pub eight-cleared : (l : List ℕ) (i : ℕ) → i / 8 + 1 < length l → Bytes l
    → set (set l (i / 8) (bit_xor (get_or l (i / 8) 0) (get_or l (i / 8) 0 % 2 ^ (8 - i % 8)))) (i / 8 + 1) (get_or l (i / 8 + 1) 0 % 2 ^ (8 - i % 8)) ≡ zeroed l i 8
eight-cleared l i h small =
    ap (λ (v : ℕ). set half (q + 1) (v % 2 ^ (8 - o))) (sym (get_or-set_other l q (q + 1) _ 0 (λ e. omega (arith, e))))
    ∙ front-cleared half (q + 1) o (simp length-set h) (rw first (written-bytes nought nought-lt l (8 * q + o) 0 (8 - o))) (omega arith)
    ∙ ap (λ (m : List ℕ). zeroed m (8 * (q + 1)) o) first
    ∙ ap (λ (m : ℕ). zeroed (zeroed l (8 * q + o) (8 - o)) m o) seam
    ∙ cleared-join l (8 * q + o) (8 - o) o
    ∙ (λ w. zeroed l (start w) (whole w))
  where
    q : ℕ
    q = i / 8

    o : ℕ
    o = i % 8

    half : List ℕ
    half = set l q (bit_xor (get_or l q 0) (get_or l q 0 % 2 ^ (8 - o)))

    first : half ≡ zeroed l (8 * q + o) (8 - o)
    first = back-cleared l q o (omega arith) small (omega arith)

    seam : 8 * (q + 1) ≡ 8 * q + o + (8 - o)
    seam = omega arith

    start : 8 * q + o ≡ i
    start = omega arith

    whole : 8 - o + o ≡ 8
    whole = omega arith

-- one byte more, of a run from bit 0 on

pub xored-more : (old s : List ℕ) (k : ℕ → ℕ) (from y v : ℕ) → Binary k → y < length old → s ≡ xored old k 0 from (8 * y)
    → v ≡ byte_of_bits (λ t. k (from + 8 * y + t)) → set s y (bit_xor (get_or s y 0) v) ≡ xored old k 0 from (8 * (y + 1))
xored-more old s k from y v binary h g e =
    let start : 8 * y ≡ 0 + 8 * y = omega arith in
    let more : 8 * y + 8 ≡ 8 * (y + 1) = omega arith in
    rw (g, e)
    (set-xored (xored old k 0 from (8 * y)) k (from + 8 * y) y binary (rw length-xored h) (xored-bytes k binary old 0 from (8 * y))
    ∙ ap (λ (m : ℕ). xored (xored old k 0 from (8 * y)) k m (from + 8 * y) 8) start
    ∙ xored-join k binary old 0 from (8 * y) 8
    ∙ ap (xored old k 0 from) more)

pub cleared_more : (old s : List ℕ) (y o v : ℕ) → y < length old → o ≤ 8 → s ≡ zeroed old 0 (8 * y) → v ≡ get_or s y 0 % 2 ^ (8 - o)
    → set s y v ≡ zeroed old 0 (8 * y + o)
cleared_more old s y o v h fits g e =
    let start : 8 * y ≡ 0 + 8 * y = omega arith in
    rw (e, g)
    (front-cleared (zeroed old 0 (8 * y)) y o (rw length-written h) (written-bytes nought nought-lt old 0 0 (8 * y)) fits
    ∙ ap (λ (m : ℕ). zeroed (zeroed old 0 (8 * y)) m o) start
    ∙ cleared-join old 0 (8 * y) o)

-- the power of 2 that a shift gives
pub power : (d : ℕ) → d ≤ 8 → 1 * 2 ^ d % 2 ^ 32 ≡ 2 ^ d
power d h = ap (λ (m : ℕ). m % 2 ^ 32) (one-mul (2 ^ d)) ∙ mod-eq_of_lt (lt_of_le_of_lt (pow_mono h) (lit< tt))

-- eight bits from bit o on of the number that two bytes are
eight_is : (a b o : ℕ) → b < 256 → o < 8 → (a * 256 + b) / 2 ^ (8 - o) % 256 ≡ byte_of_bits (λ t. bit_at (a ∷ b ∷ []) (o + t))
unfolding bit_of bit_at
eight_is a b o hb ho =
    sym (byte-is-bits (n / 2 ^ (8 - o) % 256) (mod-lt (n / 2 ^ (8 - o)) (lit< tt)))
    ∙ byte-ext (bit_of (n / 2 ^ (8 - o) % 256)) _ (λ t ht. ⊎_elim (first t ht) (second t ht) (lt-or-le (o + t) 8))
  where
    n : ℕ
    n = a * 256 + b

    -- bit t is the bit of n that stands for 2 ^ (8 - o + (7 - t))
    shifted : (t : ℕ) → t < 8 → bit_of (n / 2 ^ (8 - o) % 256) t ≡ n / 2 ^ (8 - o + (7 - t)) % 2
    shifted t ht = low-kept (n / 2 ^ (8 - o)) 8 t ht (omega arith) ∙ ap (λ (m : ℕ). m % 2) (shr-shr n (8 - o) (7 - t))

    first : (t : ℕ) → t < 8 → o + t < 8 → bit_of (n / 2 ^ (8 - o) % 256) t ≡ bit_at (a ∷ b ∷ []) (o + t)
    first t ht u =
        let q : n / 2 ^ 8 ≡ a = omega arith in
        let e : 8 - o + (7 - t) ≡ 8 + (7 - (o + t)) = omega arith in
        let d : (o + t) / 8 ≡ 0 = omega arith in
        let m : (o + t) % 8 ≡ o + t = omega arith in
        rw (d, m)
        (shifted t ht
        ∙ ap (λ (i : ℕ). n / 2 ^ i % 2) e
        ∙ ap (λ (i : ℕ). i % 2) (sym (shr-shr n 8 (7 - (o + t))) ∙ ap (λ (i : ℕ). i / 2 ^ (7 - (o + t))) q))

    second : (t : ℕ) → t < 8 → 8 ≤ o + t → bit_of (n / 2 ^ (8 - o) % 256) t ≡ bit_at (a ∷ b ∷ []) (o + t)
    second t ht u =
        let q : n % 2 ^ 8 ≡ b = omega arith in
        let e : 8 - o + (7 - t) ≡ 7 - (o + t - 8) = omega arith in
        let d : (o + t) / 8 ≡ 1 = omega arith in
        let m : (o + t) % 8 ≡ o + t - 8 = omega arith in
        rw (d, m)
        (shifted t ht
        ∙ ap (λ (i : ℕ). n / 2 ^ i % 2) e
        ∙ sym (low-kept n 8 (o + t - 8) (omega arith) (omega arith))
        ∙ ap (λ (i : ℕ). bit_of i (o + t - 8)) q)

-- the same of each byte by itself, as it is shifted in 32 bits
eight_by_bytes : (a b o : ℕ) → a < 256 → b < 256 → o < 8 → a * 2 ^ o % 2 ^ 32 % 256 + b * 2 ^ o % 2 ^ 32 / 256 ≡ (a * 256 + b) / 2 ^ (8 - o) % 256
eight_by_bytes a b o ha hb =
    below-eight (λ i. a * 2 ^ i % 2 ^ 32 % 256 + b * 2 ^ i % 2 ^ 32 / 256 ≡ (a * 256 + b) / 2 ^ (8 - i) % 256)
    (omega arith) (omega arith) (omega arith) (omega arith) (omega arith) (omega arith) (omega arith) (omega arith) o

pub eight_parts : (a b o : ℕ) → a < 256 → b < 256 → o < 8
    → a * 2 ^ o % 2 ^ 32 % 256 + b * 2 ^ o % 2 ^ 32 / 256 ≡ byte_of_bits (λ t. bit_at (a ∷ b ∷ []) (o + t))
eight_parts a b o ha hb ho = eight_by_bytes a b o ha hb ho ∙ eight_is a b o hb ho

-- two bytes in a row of a list
pub pair-at : (z : List ℕ) (q i : ℕ) → i < 16 → bit_at (get_or z q 0 ∷ get_or z (q + 1) 0 ∷ []) i ≡ bit_at z (8 * q + i)
unfolding bit_at
pair-at z q i h =
    let m : (8 * q + i) % 8 ≡ i % 8 = omega arith in
    ⊎_elim
    (λ u.
    let d : i / 8 ≡ 0 = omega arith in
    let e : (8 * q + i) / 8 ≡ q = omega arith in
    rw (d, e, m))
    (λ u.
    let d : i / 8 ≡ 1 = omega arith in
    let e : (8 * q + i) / 8 ≡ q + 1 = omega arith in
    rw (d, e, m))
    (lt-or-le i 8)

-- q bytes 0 in front, and the others as they were
module _ (old : List ℕ) (q : ℕ) (bytes : Bytes old) (h : q ≤ length old) where
  zeroed_front : (j : ℕ) → j ≤ q → paste old 0 (replicate q 0) j ≡ zeroed old 0 (8 * j)
  zeroed_front zero l = sym (paste-zero old 0 (replicate q 0)) ∙ sym (written_none old nought 0 0 bytes)
  zeroed_front (suc j) l =
      let s = paste old 0 (replicate q 0) j in
      let more : 8 * j + 8 ≡ 8 * suc j = omega arith in
      let zeros : List ℕ = replicate q 0 in
      let within : j < length zeros = omega (arith, length-replicate {A = ℕ} q 0) in
      sym (paste-suc old 0 (replicate q 0) j 0 (omega arith) within)
      ∙ (λ i. set s (zero-add j i) (get_or-replicate q j 0 0 (omega arith) i))
      ∙ cleared_more old s j 8 0 (omega arith) (omega arith) (zeroed_front j (omega arith)) (omega arith)
      ∙ ap (zeroed old 0) more

  pub front_zeroed : replicate q 0 ++ drop q old ≡ zeroed old 0 (8 * q)
  front_zeroed =
      sym (λ i. take_all q (replicate q 0) (omega (arith, length-replicate {A = ℕ} q 0)) i ++ drop (zero-add q i) old) ∙ zeroed_front q (omega arith)
