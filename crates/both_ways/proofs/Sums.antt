-- Products are additive: k (x + y) is k x + k y, at every two bytes; and what two rounds of four products come to. Assumes nothing.
use mathlib.Core.Path.{◌≡◌, refl, sym, ap, ◌∙◌}
use mathlib.Core.Bool.{Bool, true, false}
use Prim.Native.Nat.{ℕ, zero, suc, ◌*◌, ◌/◌, ◌%◌, ◌<◌}
use native.Mathlib.Omega.{arith}
use lib.Bits.{bit_xor, xor_lt, xor_comm}
use lib.Dec.{eqb, lit<}
use Rattle.laws.specs.Choice.{pick}
use Rattle.laws.proofs.Xor.{xor_assoc, xor-middle}
use Rattle.gf256.specs.Field.{times_z, sum_over, times}
use Rattle.gf256.proofs.Doubling.{linear}
use Rattle.inv_bytes.proofs.Products.{z-double}

-- z x, at a byte
z-small : (x : ℕ) → x < 256 → times_z x < 256
z-small x h = rw (z-double x h) (xor_lt 8 (x % 128 * 2) (x / 128 * 27) (omega arith) (omega arith))

z-sum : (x y : ℕ) → x < 256 → y < 256 → times_z (bit_xor x y) ≡ bit_xor (times_z x) (times_z y)
z-sum x y p q =
    z-double (bit_xor x y) (xor_lt 8 x y p q) ∙ linear x y p q ∙ sym (λ i. bit_xor (z-double x p i) (z-double y q i))

pick-sum : (t : Bool) (x y : ℕ) → pick t (bit_xor x y) 0 ≡ bit_xor (pick t x 0) (pick t y 0)
pick-sum true x y = refl
pick-sum false x y = refl

pick_small : (t : Bool) (x : ℕ) → x < 256 → pick t x 0 < 256
pick_small true x h = h
pick_small false x h = lit< tt

over-sum : (n k x y : ℕ) → x < 256 → y < 256 → sum_over n k (bit_xor x y) ≡ bit_xor (sum_over n k x) (sum_over n k y)
over-sum zero k x y p q = refl
over-sum (suc n) k x y p q =
    (λ i. bit_xor (pick-sum (eqb (k % 2) 1) x y i) (sum_over n (k / 2) (z-sum x y p q i)))
    ∙ ap (bit_xor (bit_xor (pick (eqb (k % 2) 1) x 0) (pick (eqb (k % 2) 1) y 0))) (over-sum n (k / 2) (times_z x) (times_z y) (z-small x p) (z-small y q))
    ∙ xor-middle (pick (eqb (k % 2) 1) x 0) (pick (eqb (k % 2) 1) y 0) (sum_over n (k / 2) (times_z x)) (sum_over n (k / 2) (times_z y))

pub over-small : (n k x : ℕ) → x < 256 → sum_over n k x < 256
over-small zero k x h = lit< tt
over-small (suc n) k x h = xor_lt 8 _ _ (pick_small (eqb (k % 2) 1) x h) (over-small n (k / 2) (times_z x) (z-small x h))

-- maps of bytes that keep sums
pub record Additive (f : ℕ → ℕ) : Type 0 where
  pub small : (x : ℕ) → x < 256 → f x < 256
  pub sum : (x y : ℕ) → x < 256 → y < 256 → f (bit_xor x y) ≡ bit_xor (f x) (f y)

pub times-additive : (k : ℕ) → Additive (times k)
unfolding times
times-additive k = record { small = over-small 8 k; sum = over-sum 8 k }

pub same-additive : Additive (λ x. x)
same-additive = record { small = λ x h. h; sum = λ x y p q. refl }

-- the sum of four, in the order of the column mixing
abbrev pub sum4 : ℕ → ℕ → ℕ → ℕ → ℕ
sum4 a b c d = bit_xor (bit_xor (bit_xor a b) c) d

pub small4 : (a b c d : ℕ) → a < 256 → b < 256 → c < 256 → d < 256 → sum4 a b c d < 256
small4 a b c d p q r s = xor_lt 8 _ d (xor_lt 8 _ c (xor_lt 8 a b p q) r) s

-- the last comes first
turn4 : (a b c d : ℕ) → sum4 a b c d ≡ sum4 d a b c
turn4 a b c d = xor_comm (bit_xor (bit_xor a b) c) d ∙ sym (xor_assoc d (bit_xor a b) c) ∙ ap (λ (x : ℕ). bit_xor x c) (sym (xor_assoc d a b))

-- four and four, summed one by one
pub more4 : (a b c d x y z u : ℕ) → bit_xor (sum4 a b c d) (sum4 x y z u) ≡ sum4 (bit_xor a x) (bit_xor b y) (bit_xor c z) (bit_xor d u)
more4 a b c d x y z u =
    xor-middle (bit_xor (bit_xor a b) c) d (bit_xor (bit_xor x y) z) u
    ∙ ap (λ (v : ℕ). bit_xor v (bit_xor d u)) (xor-middle (bit_xor a b) c (bit_xor x y) z)
    ∙ ap (λ (v : ℕ). bit_xor (bit_xor v (bit_xor c z)) (bit_xor d u)) (xor-middle a b x y)

-- four rows of four, by columns
across : (a b c d e f g h i j k l m n o p : ℕ)
    → sum4 (sum4 a b c d) (sum4 e f g h) (sum4 i j k l) (sum4 m n o p) ≡ sum4 (sum4 a e i m) (sum4 b f j n) (sum4 c g k o) (sum4 d h l p)
across a b c d e f g h i j k l m n o p =
    ap (λ (v : ℕ). bit_xor (bit_xor v (sum4 i j k l)) (sum4 m n o p)) (more4 a b c d e f g h)
    ∙ ap (λ (v : ℕ). bit_xor v (sum4 m n o p)) (more4 (bit_xor a e) (bit_xor b f) (bit_xor c g) (bit_xor d h) i j k l)
    ∙ more4 (bit_xor (bit_xor a e) i) (bit_xor (bit_xor b f) j) (bit_xor (bit_xor c g) k) (bit_xor (bit_xor d h) l) m n o p

-- an additive map of four summed
of4 : {f : ℕ → ℕ} → Additive f → (a b c d : ℕ) → a < 256 → b < 256 → c < 256 → d < 256 → f (sum4 a b c d) ≡ sum4 (f a) (f b) (f c) (f d)
of4 {f} add a b c d p q r s =
    add.sum (bit_xor (bit_xor a b) c) d (xor_lt 8 _ c (xor_lt 8 a b p q) r) s
    ∙ ap (λ (v : ℕ). bit_xor v (f d)) (add.sum (bit_xor a b) c (xor_lt 8 a b p q) r)
    ∙ ap (λ (v : ℕ). bit_xor (bit_xor v (f c)) (f d)) (add.sum a b p q)

-- a byte of a column, from its own row's byte on downwards, each byte through a map of its own
abbrev pub column : (ℕ → ℕ) → (ℕ → ℕ) → (ℕ → ℕ) → (ℕ → ℕ) → ℕ → ℕ → ℕ → ℕ → ℕ
column p q r s a b c d = sum4 (p a) (q b) (r c) (s d)

-- Two such maps of a column, one after the other: what each byte of the column adds to the first byte of the result.
module _ {P Q R S p q r s : ℕ → ℕ} (P+ : Additive P) (Q+ : Additive Q) (R+ : Additive R) (S+ : Additive S) (p+ : Additive p) (q+ : Additive q) (r+ : Additive r) (s+ : Additive s) where
  pub twice-mixed : (a b c d : ℕ) → a < 256 → b < 256 → c < 256 → d < 256
      → column P Q R S (column p q r s a b c d) (column p q r s b c d a) (column p q r s c d a b) (column p q r s d a b c)
      ≡ sum4 (column P Q R S (p a) (s a) (r a) (q a)) (column P Q R S (q b) (p b) (s b) (r b)) (column P Q R S (r c) (q c) (p c) (s c)) (column P Q R S (s d) (r d) (q d) (p d))
  twice-mixed a b c d ha hb hc hd =
      (λ i. sum4 (first i) (second i) (third i) (fourth i))
      ∙ across (P (p a)) (P (q b)) (P (r c)) (P (s d)) (Q (s a)) (Q (p b)) (Q (q c)) (Q (r d)) (R (r a)) (R (s b)) (R (p c)) (R (q d)) (S (q a)) (S (r b)) (S (s c)) (S (p d))
    where
      first : P (column p q r s a b c d) ≡ sum4 (P (p a)) (P (q b)) (P (r c)) (P (s d))
      first = of4 P+ (p a) (q b) (r c) (s d) (p+.small a ha) (q+.small b hb) (r+.small c hc) (s+.small d hd)

      second : Q (column p q r s b c d a) ≡ sum4 (Q (s a)) (Q (p b)) (Q (q c)) (Q (r d))
      second = of4 Q+ (p b) (q c) (r d) (s a) (p+.small b hb) (q+.small c hc) (r+.small d hd) (s+.small a ha) ∙ turn4 (Q (p b)) (Q (q c)) (Q (r d)) (Q (s a))

      third : R (column p q r s c d a b) ≡ sum4 (R (r a)) (R (s b)) (R (p c)) (R (q d))
      third =
          of4 R+ (p c) (q d) (r a) (s b) (p+.small c hc) (q+.small d hd) (r+.small a ha) (s+.small b hb)
          ∙ turn4 (R (p c)) (R (q d)) (R (r a)) (R (s b)) ∙ turn4 (R (s b)) (R (p c)) (R (q d)) (R (r a))

      fourth : S (column p q r s d a b c) ≡ sum4 (S (q a)) (S (r b)) (S (s c)) (S (p d))
      fourth =
          of4 S+ (p d) (q a) (r b) (s c) (p+.small d hd) (q+.small a ha) (r+.small b hb) (s+.small c hc)
          ∙ turn4 (S (p d)) (S (q a)) (S (r b)) (S (s c)) ∙ turn4 (S (s c)) (S (p d)) (S (q a)) (S (r b)) ∙ turn4 (S (r b)) (S (s c)) (S (p d)) (S (q a))
