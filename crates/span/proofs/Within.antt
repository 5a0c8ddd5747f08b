-- One bit of a run that is xored or written: inside the run, beside it, and a run after a run. Assumes nothing.
use mathlib.Core.Path.{◌≡◌, sym, ap, ◌∙◌}
use mathlib.Core.Logic.{⊎_elim}
use Prim.Native.Nat.{ℕ, ◌+◌, ◌-◌, ◌<◌, ◌≤◌}
use native.Mathlib.Omega.{arith}
use borrow.Author.Tests.{lt-ltb, le-ltb, le-leb, lt-leb}
use lib.Bits.{bit_xor, xor_comm, xor_lt, xor_zero_l}
use Rattle.laws.proofs.Cases.{lt-or-le}
use Rattle.laws.proofs.Xor.{xor_assoc, xor-back}
use Rattle.span.specs.Span.{in_run, span_bit, put_bit, nought}

-- what is xored last and what is xored before it change places
xor-swap : (a b c : ℕ) → bit_xor (bit_xor a b) c ≡ bit_xor (bit_xor a c) b
xor-swap a b c = xor_assoc a b c ∙ ap (bit_xor a) (xor_comm b c) ∙ sym (xor_assoc a c b)

-- a stream of bits
abbrev pub Binary : (ℕ → ℕ) → Type 0
Binary k = (i : ℕ) → k i < 2

-- j is not one of the n bits from `off` on
abbrev pub Beside : ℕ → ℕ → ℕ → Type 0
Beside off n j = off ≤ j → off + n ≤ j

pub within_in : (off n j a b : ℕ) → off ≤ j → j < off + n → in_run off n j a b ≡ a
unfolding in_run
within_in off n j a b h l = rw (le-leb off j h, lt-ltb j (off + n) l)

pub within-out : (off n j a b : ℕ) → Beside off n j → in_run off n j a b ≡ b
unfolding in_run
within-out off n j a b h =
    ⊎_elim (λ u. rw (lt-leb off j u)) (λ u. rw (le-leb off j u, le-ltb j (off + n) (h u))) (lt-or-le j off)

-- a bit number inside a run, or beside it
pub in-or-out : (off n j : ℕ) {P : Type 0} → (off ≤ j → j < off + n → P) → (Beside off n j → P) → P
in-or-out off n j inside beside =
    ⊎_elim
    (λ u. beside (λ v. absurd (omega arith)))
    (λ u. ⊎_elim (inside u) (λ v. beside (λ w. v)) (lt-or-le j (off + n)))
    (lt-or-le j off)

-- the same bit, inside and beside
pub within_same : (off n j : ℕ) {a b c d : ℕ} → (off ≤ j → j < off + n → a ≡ c) → (Beside off n j → b ≡ d) → in_run off n j a b ≡ in_run off n j c d
within_same off n j {a} {b} {c} {d} p q =
    in-or-out off n j
    (λ u v. within_in off n j a b u v ∙ p u v ∙ sym (within_in off n j c d u v))
    (λ u. within-out off n j a b u ∙ q u ∙ sym (within-out off n j c d u))

-- a run after a run is one run
pub within-join : (off n m j b : ℕ) {a c : ℕ} → (off + n ≤ j → c ≡ a) → in_run (off + n) m j c (in_run off n j a b) ≡ in_run off (n + m) j a b
within-join off n m j b {a} {c} e =
    in-or-out off n j
    (λ u v.
    within-out (off + n) m j c (in_run off n j a b) (λ w. absurd (omega arith))
    ∙ within_in off n j a b u v
    ∙ sym (within_in off (n + m) j a b u (omega arith)))
    (λ h.
    ap (in_run (off + n) m j c) (within-out off n j a b h)
    ∙ in-or-out (off + n) m j
    (λ u v. within_in (off + n) m j c b u v ∙ e u ∙ sym (within_in off (n + m) j a b (omega arith) (omega arith)))
    (λ g. within-out (off + n) m j c b g ∙ sym (within-out off (n + m) j a b (λ w. omega (arith, g (h w))))))

pub within-lt : (off n j : ℕ) {a b : ℕ} → a < 2 → b < 2 → in_run off n j a b < 2
within-lt off n j {a} {b} ha hb =
    in-or-out off n j
    (λ u v. rw (within_in off n j a b u v) ha)
    (λ u. rw (within-out off n j a b u) hb)

-- bits that are xored or written are bits

pub span-lt : {p k : ℕ → ℕ} (off from n : ℕ) → Binary p → Binary k → Binary (span_bit p k off from n)
unfolding span_bit
span-lt {p} {k} off from n hp hk j = within-lt off n j (xor_lt 1 (p j) (k (from + (j - off))) (hp j) (hk _)) (hp j)

pub put-lt : {p k : ℕ → ℕ} (off from n : ℕ) → Binary p → Binary k → Binary (put_bit p k off from n)
unfolding put_bit
put-lt off from n hp hk j = within-lt off n j (hk _) (hp j)

pub nought-lt : Binary nought
unfolding nought
nought-lt i = omega arith

-- what is xored and then xored with what follows in the stream is xored once
pub span-join : (p k : ℕ → ℕ) (off from n m j : ℕ) → span_bit (span_bit p k off from n) k (off + n) (from + n) m j ≡ span_bit p k off from (n + m) j
unfolding span_bit
span-join p k off from n m j =
    within-join off n m j (p j)
    (λ u.
    let e : from + n + (j - (off + n)) ≡ from + (j - off) = omega arith in
    rw (within-out off n j (bit_xor (p j) (k (from + (j - off)))) (p j) (λ w. u), e))

-- a run from bit b + off on is one from bit off on of the bits that stand from bit b on
pub span-shift : (p q k : ℕ → ℕ) (b off from n j : ℕ) → q j ≡ p (b + j) → span_bit q k off from n j ≡ span_bit p k (b + off) from n (b + j)
unfolding span_bit
span-shift p q k b off from n j e =
    let d : j - off ≡ b + j - (b + off) = omega arith in
    rw (e, d)
    (in-or-out off n j
    (λ u v. within_in off n j _ _ u v ∙ sym (within_in (b + off) n (b + j) _ _ (omega arith) (omega arith)))
    (λ u. within-out off n j _ _ u ∙ sym (within-out (b + off) n (b + j) _ _ (λ v. omega (arith, u (omega arith))))))

-- two runs change places, whether or not they meet
pub span-swap : (p k s : ℕ → ℕ) (off from n off₂ from₂ n₂ j : ℕ)
    → span_bit (span_bit p k off from n) s off₂ from₂ n₂ j ≡ span_bit (span_bit p s off₂ from₂ n₂) k off from n j
unfolding span_bit
span-swap p k s off from n off₂ from₂ n₂ j =
    in-or-out off n j
    (λ u v.
    rw (within_in off n j (bit_xor (p j) x) (p j) u v, within_in off n j (bit_xor second x) second u v)
    (in-or-out off₂ n₂ j
    (λ u₂ v₂. rw (within_in off₂ n₂ j (bit_xor (bit_xor (p j) x) y) (bit_xor (p j) x) u₂ v₂, within_in off₂ n₂ j (bit_xor (p j) y) (p j) u₂ v₂) (xor-swap (p j) x y))
    (λ h₂. rw (within-out off₂ n₂ j (bit_xor (bit_xor (p j) x) y) (bit_xor (p j) x) h₂, within-out off₂ n₂ j (bit_xor (p j) y) (p j) h₂))))
    (λ h. rw (within-out off n j (bit_xor (p j) x) (p j) h, within-out off n j (bit_xor second x) second h))
  where
    x : ℕ
    x = k (from + (j - off))

    y : ℕ
    y = s (from₂ + (j - off₂))

    second : ℕ
    second = in_run off₂ n₂ j (bit_xor (p j) y) (p j)

-- the same run twice gives every bit back
pub span-twice : (p k : ℕ → ℕ) (off from n j : ℕ) → span_bit (span_bit p k off from n) k off from n j ≡ p j
unfolding span_bit
span-twice p k off from n j =
    in-or-out off n j
    (λ u v. within_in off n j _ _ u v ∙ rw (within_in off n j (bit_xor (p j) (k (from + (j - off)))) (p j) u v) (xor-back (p j) (k (from + (j - off)))))
    (λ u. within-out off n j _ _ u ∙ within-out off n j _ _ u)

-- bits that are cleared and then xored are the stream's
pub span-cleared : (p k : ℕ → ℕ) (off from n j : ℕ) → span_bit (put_bit p nought off 0 n) k off from n j ≡ put_bit p k off from n j
unfolding span_bit put_bit nought
span-cleared p k off from n j =
    within_same off n j
    (λ u v. rw (within_in off n j 0 (p j) u v) (xor_zero_l (k (from + (j - off)))))
    (λ u. within-out off n j 0 (p j) u)
