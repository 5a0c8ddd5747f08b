-- Laws of the bits of bytes and of lists of bytes. Assumes nothing.
use mathlib.Core.Path.{◌≡◌, refl, sym, ap, subst, ◌∙◌}
use mathlib.Core.Logic.{⊎_elim}
use mathlib.Core.Bool.{Bool, true, false, ◌&&◌}
use mathlib.Core.List.{List, ◌++◌}
use Prim.Native.Nat.{ℕ, ◌+◌, ◌-◌, ◌*◌, ◌/◌, ◌%◌, ◌^◌, ◌<◌, ◌≤◌, zero-le}
use native.Mathlib.Nat.{mod-lt, zero-div, div-eq_of_lt, lt_of_lt_of_le, zero-add}
use native.Mathlib.Omega.{arith}
use borrow.Author.Tests.{eqb-true, eqb-false, eq-eqb, ne_eqb}
use lib.Bits.{bit_or, bit_xor, xor_self, xor_zero_r, xor_shr, xor_mod, or_add_and, and_le_l, and_le_r}
use lib.Dec.{eqb, lit<}
use lib.ListN.{length, get_or, set, length-set, get_or-append, get_or-eq_default}
use lib.Pow.{pow_pos, pow_mono, field, mod-mod-pow}
use lib.Seq.{get_or-set_same, get_or-set_other, get_or-append-add}
use Rattle.laws.specs.Bits.{bit_of, bit_at, byte_of_bits, bytes_of_bits}
use Rattle.laws.proofs.Cases.{below-eight, eq-or-ne, lt-or-le}
use Rattle.laws.proofs.Lists.{length-tabulate, get_d_tabulate, tabulate-ext}
use Rattle.laws.proofs.Tests.{agree}

-- one bit

pub bit-lt : (x t : ℕ) → bit_of x t < 2
unfolding bit_of
bit-lt x t = mod-lt (x / 2 ^ (7 - t)) (lit< tt)

pub bit-of-zero : (t : ℕ) → bit_of 0 t ≡ 0
unfolding bit_of
bit-of-zero t = ap (λ (m : ℕ). m % 2) (zero-div (2 ^ (7 - t)))

pub bit-xor : (x y t : ℕ) → bit_of (bit_xor x y) t ≡ bit_xor (bit_of x t) (bit_of y t)
unfolding bit_of
bit-xor x y t = ap (λ (z : ℕ). z % 2) (xor_shr x y (7 - t)) ∙ xor_mod (x / 2 ^ (7 - t)) (y / 2 ^ (7 - t)) 1

-- x % 2 ^ d keeps the last d bits of x alone

pub low-kept : (x d t : ℕ) → t < 8 → 8 ≤ t + d → bit_of (x % 2 ^ d) t ≡ bit_of x t
unfolding bit_of
low-kept x d t ht h =
    let k = 7 - t in
    let j = d - (7 - t) - 1 in
    let e : d ≡ j + 1 + k = omega arith in
    ap (λ (m : ℕ). x % 2 ^ m / 2 ^ k % 2) e ∙ ap (λ (m : ℕ). m % 2) (field x (j + 1) k) ∙ mod-mod-pow (x / 2 ^ k) j 1

pub low-gone : (x d t : ℕ) → t + d < 8 → bit_of (x % 2 ^ d) t ≡ 0
unfolding bit_of
low-gone x d t h =
    ap (λ (m : ℕ). m % 2) (div-eq_of_lt (lt_of_lt_of_le (mod-lt x (pow_pos d)) (pow_mono (omega arith))))

-- x xor x % 2 ^ d keeps all but the last d bits of x

pub high-kept : (x d t : ℕ) → t + d < 8 → bit_of (bit_xor x (x % 2 ^ d)) t ≡ bit_of x t
high-kept x d t h = bit-xor x (x % 2 ^ d) t ∙ ap (bit_xor (bit_of x t)) (low-gone x d t h) ∙ xor_zero_r (bit_of x t)

pub high-gone : (x d t : ℕ) → t < 8 → 8 ≤ t + d → bit_of (bit_xor x (x % 2 ^ d)) t ≡ 0
high-gone x d t ht h = bit-xor x (x % 2 ^ d) t ∙ ap (bit_xor (bit_of x t)) (low-kept x d t ht h) ∙ xor_self (bit_of x t)

-- one bit of a list

pub at_lt : (l : List ℕ) (j : ℕ) → bit_at l j < 2
unfolding bit_at
at_lt l j = bit-lt (get_or l (j / 8) 0) (j % 8)

-- no bit is set past the end
pub at-past : (l : List ℕ) (j : ℕ) → 8 * length l ≤ j → bit_at l j ≡ 0
unfolding bit_at
at-past l j h = ap (λ (x : ℕ). bit_of x (j % 8)) (get_or-eq_default l 0 (omega arith)) ∙ bit-of-zero (j % 8)

-- bit 8 * q + t is bit t of byte q
pub at_byte : (l : List ℕ) (q t : ℕ) → t < 8 → bit_at l (8 * q + t) ≡ bit_of (get_or l q 0) t
unfolding bit_at
at_byte l q t h =
    let d : (8 * q + t) / 8 ≡ q = omega arith in
    let m : (8 * q + t) % 8 ≡ t = omega arith in
    rw (d, m)

-- a bit of the byte that was stored, and a bit of another byte
pub set-in : (l : List ℕ) (y v j : ℕ) → y < length l → j / 8 ≡ y → bit_at (set l y v) j ≡ bit_of v (j % 8)
unfolding bit_at
set-in l y v j h e = rw e (ap (λ (x : ℕ). bit_of x (j % 8)) (get_or-set_same l y v 0 h))

pub set_out : (l : List ℕ) (y v j : ℕ) → (j / 8 ≡ y → ⊥) → bit_at (set l y v) j ≡ bit_at l j
unfolding bit_at
set_out l y v j ne = ap (λ (x : ℕ). bit_of x (j % 8)) (get_or-set_other l y (j / 8) v 0 ne)

-- a bit of the first of two lists, and a bit of the second
pub at_front : (a b : List ℕ) (j : ℕ) → j < 8 * length a → bit_at (a ++ b) j ≡ bit_at a j
unfolding bit_at
at_front a b j h = ap (λ (x : ℕ). bit_of x (j % 8)) (get_or-append a b 0 (j / 8) (omega arith))

pub at_back : (a b : List ℕ) (j : ℕ) → bit_at (a ++ b) (8 * length a + j) ≡ bit_at b j
unfolding bit_at
at_back a b j =
    let d : (8 * length a + j) / 8 ≡ length a + j / 8 = omega arith in
    let m : (8 * length a + j) % 8 ≡ j % 8 = omega arith in
    rw (d, m) (ap (λ (x : ℕ). bit_of x (j % 8)) (get_or-append-add a b (j / 8) 0))

-- a byte is its bits

pub byte-is-bits : (x : ℕ) → x < 256 → byte_of_bits (bit_of x) ≡ x
unfolding byte_of_bits bit_of
byte-is-bits x h = agree (λ y. byte_of_bits (bit_of y)) (λ y. y) 0 256 tt x zero-le h

-- a byte that is made of bits p has these bits
pub bits-of-byte : (p : ℕ → ℕ) → ((t : ℕ) → p t < 2) → (t : ℕ) → t < 8 → bit_of (byte_of_bits p) t ≡ p t
unfolding byte_of_bits bit_of
bits-of-byte p small =
    let s0 = small 0 in
    let s1 = small 1 in
    let s2 = small 2 in
    let s3 = small 3 in
    let s4 = small 4 in
    let s5 = small 5 in
    let s6 = small 6 in
    let s7 = small 7 in
    below-eight (λ t. bit_of (byte_of_bits p) t ≡ p t)
    (omega arith) (omega arith) (omega arith) (omega arith) (omega arith) (omega arith) (omega arith) (omega arith)

pub byte-lt : (p : ℕ → ℕ) → ((t : ℕ) → p t < 2) → byte_of_bits p < 256
unfolding byte_of_bits
byte-lt p small =
    omega (arith, small 0, small 1, small 2, small 3, small 4, small 5, small 6, small 7)

-- the same bits, the same byte
pub byte-ext : (p q : ℕ → ℕ) → ((t : ℕ) → t < 8 → p t ≡ q t) → byte_of_bits p ≡ byte_of_bits q
unfolding byte_of_bits
byte-ext p q e =
    λ i.
    e 0 (lit< tt) i * 128 + e 1 (lit< tt) i * 64 + e 2 (lit< tt) i * 32 + e 3 (lit< tt) i * 16 + e 4 (lit< tt) i * 8 + e 5 (lit< tt) i * 4
    + e 6 (lit< tt) i * 2 + e 7 (lit< tt) i

-- a list of bytes is its bits

pub length-bytes : (p : ℕ → ℕ) (n : ℕ) → length (bytes_of_bits p n) ≡ n
unfolding bytes_of_bits
length-bytes p n = length-tabulate _ 0 n

pub bytes_lt : (p : ℕ → ℕ) (n : ℕ) → ((i : ℕ) → p i < 2) → (q : ℕ) → get_or (bytes_of_bits p n) q 0 < 256
unfolding bytes_of_bits
bytes_lt p n small q =
    ⊎_elim
    (λ u. subst (λ (x : ℕ). x < 256) (sym (get_d_tabulate _ 0 n q 0 u)) (byte-lt _ (λ t. small _)))
    (λ u. subst (λ (x : ℕ). x < 256) (sym (get_or-eq_default (bytes_of_bits p n) 0 (omega (arith, length-bytes p n)))) (lit< tt))
    (lt-or-le q n)

-- the same bits, the same bytes
pub bytes-ext : (p q : ℕ → ℕ) (n : ℕ) → ((j : ℕ) → j < 8 * n → p j ≡ q j) → bytes_of_bits p n ≡ bytes_of_bits q n
unfolding bytes_of_bits
bytes-ext p q n e =
    tabulate-ext _ 0 n 0 (bytes_of_bits p n) (length-bytes p n)
    (λ k h. get_d_tabulate _ 0 n k 0 h ∙ byte-ext _ _ (λ t u. e (8 * (0 + k) + t) (omega arith)))

-- a list of n bytes whose bits are p's is the bytes of p
pub bytes-are-bits : (l : List ℕ) (p : ℕ → ℕ) (n : ℕ) → length l ≡ n → ((q : ℕ) → get_or l q 0 < 256)
    → ((j : ℕ) → j < 8 * n → bit_at l j ≡ p j) → l ≡ bytes_of_bits p n
unfolding bytes_of_bits
bytes-are-bits l p n e small h =
    tabulate-ext _ 0 n 0 l e
    (λ q k.
    sym (byte-is-bits (get_or l q 0) (small q))
    ∙ byte-ext (bit_of (get_or l q 0)) (λ t. p (8 * (0 + q) + t))
    (λ t u.
    let z : 0 + q ≡ q = zero-add q in
    rw z (sym (at_byte l q t u) ∙ h (8 * q + t) (omega arith))))

-- the bits of the bytes of p are p's
pub bits_of_bytes : (p : ℕ → ℕ) (n : ℕ) → ((i : ℕ) → p i < 2) → (j : ℕ) → j < 8 * n → bit_at (bytes_of_bits p n) j ≡ p j
unfolding bytes_of_bits bit_at
bits_of_bytes p n small j h =
    ap (λ (x : ℕ). bit_of x (j % 8)) (get_d_tabulate _ 0 n (j / 8) 0 (omega arith))
    ∙ bits-of-byte (λ t. p (8 * (0 + j / 8) + t)) (λ t. small _) (j % 8) (omega arith)
    ∙ ap p (omega arith)

-- two lists of bytes are equal by their bits
pub bits-ext : (a b : List ℕ) → length a ≡ length b → ((q : ℕ) → get_or a q 0 < 256) → ((q : ℕ) → get_or b q 0 < 256)
    → ((j : ℕ) → bit_at a j ≡ bit_at b j) → a ≡ b
bits-ext a b e ha hb h =
    bytes-are-bits a (bit_at b) (length b) e ha (λ j k. h j) ∙ sym (bytes-are-bits b (bit_at b) (length b) refl hb (λ j k. refl))

-- a byte that was stored has the bits of p, and every other bit is p's
pub set-bytes : (l : List ℕ) (p : ℕ → ℕ) (y v : ℕ) → y < length l → ((q : ℕ) → get_or l q 0 < 256) → v ≡ byte_of_bits (λ t. p (8 * y + t))
    → ((j : ℕ) → (j / 8 ≡ y → ⊥) → bit_at l j ≡ p j) → set l y v ≡ bytes_of_bits p (length l)
unfolding bytes_of_bits
set-bytes l p y v h small e others =
    tabulate-ext _ 0 (length l) 0 (set l y v) (length-set l y v) (λ q k. rw zero-add (⊎_elim (same q) (other q) (eq-or-ne q y)))
  where
    same : (q : ℕ) → q ≡ y → get_or (set l y v) q 0 ≡ byte_of_bits (λ t. p (8 * q + t))
    same q w = rw w (get_or-set_same l y v 0 h ∙ e)

    other : (q : ℕ) → (q ≡ y → ⊥) → get_or (set l y v) q 0 ≡ byte_of_bits (λ t. p (8 * q + t))
    other q w =
        get_or-set_other l y q v 0 w
        ∙ sym (byte-is-bits (get_or l q 0) (small q))
        ∙ byte-ext (bit_of (get_or l q 0)) (λ t. p (8 * q + t))
        (λ t u. sym (at_byte l q t u) ∙ others (8 * q + t) (λ z. w (omega arith)))

-- x or y is zero where both are
pub or-none : (x y : ℕ) → eqb (bit_or x y) 0 ≡ eqb x 0 && eqb y 0
or-none x y = go (eqb x 0) (eqb y 0) refl refl
  where
    go : (a b : Bool) → eqb x 0 ≡ a → eqb y 0 ≡ b → eqb (bit_or x y) 0 ≡ a && b
    go true true p q = eq-eqb (bit_or x y) 0 (omega (arith, eqb-true, or_add_and x y))
    go true false p q = ne_eqb (bit_or x y) 0 (λ e. eqb-false y 0 q (omega (arith, or_add_and x y, and_le_l x y)))
    go false b p q = ne_eqb (bit_or x y) 0 (λ e. eqb-false x 0 p (omega (arith, or_add_and x y, and_le_r x y)))
