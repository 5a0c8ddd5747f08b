-- 2 (a + b) + b is 2 a + 3 b, at every two bytes. Assumes nothing.
use mathlib.Core.Path.{◌≡◌, sym, ◌∙◌}
use Prim.Native.Nat.{ℕ, ◌*◌, ◌/◌, ◌%◌, ◌<◌, zero-le}
use native.Mathlib.Nat.{add-zero}
use native.Mathlib.Omega.{arith}
use lib.Bits.{bit_xor, xor_lt, xor_shr, xor_mod, xor_block}
use lib.Dec.{eqb, eqb→eq, lit<}
use Rattle.gf256.specs.Field.{times}
use Rattle.laws.proofs.Tests.{all, between, agree}
use Rattle.laws.proofs.Xor.{xor_assoc, xor-middle}

-- 2 x without a test
abbrev pub double : ℕ → ℕ
double x = bit_xor (x % 128 * 2) (x / 128 * 27)

pub is-double : (x : ℕ) → x < 256 → double x ≡ times 2 x
unfolding times
is-double x h = agree double (times 2) 0 256 tt x zero-le (omega arith)

is-triple : (x : ℕ) → x < 256 → bit_xor (double x) x ≡ times 3 x
unfolding times
is-triple x h = agree (λ x. bit_xor (double x) x) (times 3) 0 256 tt x zero-le (omega arith)

times-2 : (a b : ℕ) → bit_xor a b * 2 ≡ bit_xor (a * 2) (b * 2)
times-2 a b = sym (simp add-zero at (xor_block 1 a b 0 0 (lit< tt) (lit< tt)))

times-27 : (p q : ℕ) → p < 2 → q < 2 → bit_xor p q * 27 ≡ bit_xor (p * 27) (q * 27)
times-27 p q hp hq =
    eqb→eq _ _
    (between (λ y. eqb (bit_xor p y * 27) (bit_xor (p * 27) (y * 27))) 0 2
    (between (λ x. all (λ y. eqb (bit_xor x y * 27) (bit_xor (x * 27) (y * 27))) 0 2) 0 2 tt p zero-le (omega arith)) q zero-le (omega arith))

pub linear : (a b : ℕ) → a < 256 → b < 256 → double (bit_xor a b) ≡ bit_xor (double a) (double b)
linear a b ha hb =
    (λ i. bit_xor (xor_mod a b 7 i * 2) (xor_shr a b 7 i * 27))
    ∙ (λ i. bit_xor (times-2 (a % 128) (b % 128) i) (times-27 (a / 128) (b / 128) (omega arith) (omega arith) i))
    ∙ xor-middle (a % 128 * 2) (b % 128 * 2) (a / 128 * 27) (b / 128 * 27)

pub double-sum : (a b : ℕ) → a < 256 → b < 256 → bit_xor (times 2 (bit_xor a b)) b ≡ bit_xor (times 2 a) (times 3 b)
double-sum a b p q =
    (λ i. bit_xor (sym (is-double (bit_xor a b) (xor_lt 8 a b p q)) i) b)
    ∙ (λ i. bit_xor (linear a b p q i) b)
    ∙ xor_assoc (double a) (double b) b
    ∙ (λ i. bit_xor (is-double a p i) (is-triple b q i))
