-- The digits of a number, how many there are, and how long an item and a line are. Assumes nothing.
use mathlib.Core.Path.{◌≡◌, refl, ap, ◌∙◌}
use mathlib.Core.Logic.{⊎_elim}
use mathlib.Core.List.{List, [], ◌∷◌, ◌++◌}
use Prim.Native.Nat.{ℕ, zero, suc, ◌+◌, ◌*◌, ◌≤◌, ◌<◌, ◌/◌, ◌%◌, ◌^◌}
use Prim.Native.String.{String}
use native.Mathlib.Nat.{pow-suc}
use native.Mathlib.Omega.{arith}
use lib.ListN.{length, length-append}
use borrow.Author.Tests.{lt-ltb, le-ltb}
use Rattle.laws.proofs.Cases.{lt-or-le}
use Rattle.writing.specs.Text.{ascii, lf, digits, digits_within, line_text, item}

-- any two bounds that suffice give the same digits
enough : (k j n : ℕ) → n ≤ k → n ≤ j → digits_within k n ≡ digits_within j n
unfolding digits_within
enough zero zero n h g = refl
enough zero (suc j) n h g = let l : n < 10 = omega arith in rw (lt-ltb n 10 l)
enough (suc k) zero n h g = let l : n < 10 = omega arith in rw (lt-ltb n 10 l)
enough (suc k) (suc j) n h g =
    ⊎_elim (λ l. rw (lt-ltb n 10 l))
    (λ l. simp (le-ltb n 10 l) (ap (λ (t : List ℕ). t ++ ((48 + n % 10) ∷ [])) (enough k j (n / 10) (omega arith) (omega arith))))
    (lt-or-le n 10)

pub digits-one : (n : ℕ) → n < 10 → digits n ≡ (48 + n) ∷ []
unfolding digits digits_within
digits-one zero h = refl
digits-one (suc n) h = rw (lt-ltb (suc n) 10 h)

-- of ten or more: those of n / 10, and one more
pub digits-ten : (n : ℕ) → 10 ≤ n → digits n ≡ digits (n / 10) ++ ((48 + n % 10) ∷ [])
unfolding digits digits_within
digits-ten zero h = absurd (omega arith)
digits-ten (suc n) h =
    rw (le-ltb (suc n) 10 h)
    (ap (λ (t : List ℕ). t ++ ((48 + suc n % 10) ∷ [])) (enough n (suc n / 10) (suc n / 10) (omega arith) (omega arith)))

pub digits_more : (n d : ℕ) → 0 < n → d < 10 → digits (n * 10 + d) ≡ digits n ++ ((48 + d) ∷ [])
digits_more n d h g =
    let q : (n * 10 + d) / 10 ≡ n = omega arith in
    let m : (n * 10 + d) % 10 ≡ d = omega arith in
    digits-ten (n * 10 + d) (omega arith) ∙ (λ i. digits (q i) ++ ((48 + m i) ∷ []))

pub length-one : (n : ℕ) → n < 10 → length (digits n) ≡ 1
length-one n h = ap length (digits-one n h)

pub length-ten : (n : ℕ) → 10 ≤ n → length (digits n) ≡ length (digits (n / 10)) + 1
length-ten n h = ap length (digits-ten n h) ∙ length-append (digits (n / 10)) ((48 + n % 10) ∷ [])

pub length_some : (n : ℕ) → 0 < length (digits n)
length_some n = ⊎_elim (λ h. omega (arith, length-one n h)) (λ h. omega (arith, length-ten n h)) (lt-or-le n 10)

-- and the other way round: of one digit it is below ten, of more it is not
pub one-digit : (n : ℕ) → length (digits n) ≤ 1 → n < 10
one-digit n h = ⊎_elim (λ l. l) (λ l. absurd (omega (arith, length-ten n l, length_some (n / 10)))) (lt-or-le n 10)

pub more-digits : (n : ℕ) → 1 < length (digits n) → 10 ≤ n
more-digits n h = ⊎_elim (λ l. absurd (omega (arith, length-one n l))) (λ l. l) (lt-or-le n 10)

-- a number below ten to the power k + 1 has at most k + 1 digits
pub digits-fit : (k n : ℕ) → n < 10 ^ suc k → length (digits n) ≤ suc k
digits-fit zero n h = omega (arith, length-one n h)
digits-fit (suc k) n h =
    let e = pow-suc 10 (suc k) in
    ⊎_elim (λ l. omega (arith, length-one n l))
    (λ l. omega (arith, length-ten n l, digits-fit k (n / 10) (omega arith)))
    (lt-or-le n 10)

ten-power : (k : ℕ) → 0 < 10 ^ k
ten-power zero = omega arith
ten-power (suc k) = omega (arith, pow-suc 10 k, ten-power k)

-- and one of ten to the power k or more has k + 1 or more
digits-some : (k n : ℕ) → 10 ^ k ≤ n → suc k ≤ length (digits n)
digits-some zero n h = length_some n
digits-some (suc k) n h =
    let e = pow-suc 10 k in
    ⊎_elim (λ l. absurd (omega (arith, ten-power k))) (λ l. omega (arith, length-ten n l, digits-some k (n / 10) (omega arith))) (lt-or-le n 10)

-- counted by the logarithm
pub digits-counted : (k n : ℕ) → 10 ^ k ≤ n → n < 10 * 10 ^ k → k + 1 ≡ length (digits n)
digits-counted k n h l = omega (arith, digits-some k n h, digits-fit k n (omega (arith, pow-suc 10 k)))

pub item-length : (name : String) (value rest : List ℕ) → length (item name value ++ rest) ≡ length (ascii name) + (length value + length rest)
item-length name value rest = omega (arith, length-append (item name value) rest, length-append (ascii name) value)

pub line-length : (name : String) (value : List ℕ) → length (line_text name value) ≡ length (ascii name) + (length value + 1)
line-length name value = omega (arith, length-append (ascii name) (value ++ (lf ∷ [])), length-append value (lf ∷ []))

pub line-then : (name : String) (value rest : List ℕ) → length (line_text name value ++ rest) ≡ length (ascii name) + (length value + (1 + length rest))
line-then name value rest = omega (arith, length-append (line_text name value) rest, line-length name value)
