-- Laws of xor that the library lacks. Assumes nothing.
use mathlib.Core.Path.{◌≡◌, sym, ap, ◌∙◌}
use Prim.Native.Nat.{ℕ, zero, suc, ◌+◌, ◌*◌, ◌/◌, ◌%◌, ◌<◌, ◌≤◌, zero-le}
use native.Mathlib.Omega.{arith}
use lib.Bits.{bit_xor, differ, xor_step, xor_shr, xor_mod, xor_comm, xor_self, xor_zero_l, xor_zero_r}
use lib.Dec.{eqb, eqb→eq}
use Rattle.laws.proofs.Tests.{all, between}

-- three digits
digits : (p q r : ℕ) → p < 2 → q < 2 → r < 2 → differ (bit_xor p q) r ≡ differ p (bit_xor q r)
digits p q r hp hq hr =
    eqb→eq _ _
    (between (λ z. eqb (differ (bit_xor p q) z) (differ p (bit_xor q z))) 0 2
    (between (λ y. all (λ z. eqb (differ (bit_xor p y) z) (differ p (bit_xor y z))) 0 2) 0 2
    (between (λ x. all (λ y. all (λ z. eqb (differ (bit_xor x y) z) (differ x (bit_xor y z))) 0 2) 0 2) 0 2 tt
    p zero-le (omega arith)) q zero-le (omega arith)) r zero-le (omega arith))

upto : (n a b c : ℕ) → a ≤ n → b ≤ n → c ≤ n → bit_xor (bit_xor a b) c ≡ bit_xor a (bit_xor b c)
upto zero a b c p q r =
    let e : a ≡ 0 = omega arith in
    rw (e, xor_zero_l b, xor_zero_l (bit_xor b c))
upto (suc n) a b c p q r =
    xor_step (bit_xor a b) c
    ∙ (λ i. bit_xor (xor_shr a b 1 i) (c / 2) * 2 + differ (xor_mod a b 1 i) (c % 2))
    ∙ (λ i. upto n (a / 2) (b / 2) (c / 2) (omega arith) (omega arith) (omega arith) i * 2 + digits (a % 2) (b % 2) (c % 2) (omega arith) (omega arith) (omega arith) i)
    ∙ sym (xor_step a (bit_xor b c) ∙ (λ i. bit_xor (a / 2) (xor_shr b c 1 i) * 2 + differ (a % 2) (xor_mod b c 1 i)))

pub xor_assoc : (a b c : ℕ) → bit_xor (bit_xor a b) c ≡ bit_xor a (bit_xor b c)
xor_assoc a b c = upto (a + b + c) a b c (omega arith) (omega arith) (omega arith)

-- the two in the middle change places
pub xor-middle : (a b c d : ℕ) → bit_xor (bit_xor a b) (bit_xor c d) ≡ bit_xor (bit_xor a c) (bit_xor b d)
xor-middle a b c d =
    xor_assoc a b (bit_xor c d)
    ∙ ap (bit_xor a) (sym (xor_assoc b c d) ∙ ap (λ (x : ℕ). bit_xor x d) (xor_comm b c) ∙ xor_assoc c b d)
    ∙ sym (xor_assoc a c (bit_xor b d))

-- the same number twice changes nothing
pub xor-back : (a b : ℕ) → bit_xor (bit_xor a b) b ≡ a
xor-back a b = xor_assoc a b b ∙ ap (bit_xor a) (xor_self b) ∙ xor_zero_r a
