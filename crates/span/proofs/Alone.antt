-- A run that stands alone in a framed block, so that xoring whole bytes of it changes the run alone. Assumes nothing.
use mathlib.Core.Path.{◌≡◌, sym, ap, ◌∙◌}
use mathlib.Core.Logic.{⊎_elim}
use mathlib.Core.List.{List, [], ◌∷◌, ◌++◌}
use Prim.Native.Nat.{ℕ, ◌+◌, ◌-◌, ◌*◌, ◌<◌, ◌≤◌}
use native.Mathlib.Omega.{arith}
use lib.Bits.{bit_xor, xor_zero_r}
use lib.ListN.{length, length-append}
use Rattle.laws.specs.Bits.{bit_at}
use Rattle.laws.proofs.Cases.{lt-or-le}
use Rattle.laws.proofs.Bits.{at_front, at_back, bytes-ext}
use Rattle.span.specs.Span.{span_bit, put_bit, xored, zeroed, framed, nought}
use Rattle.span.proofs.Within.{Beside, within_in, within-out, in-or-out, nought-lt}
use Rattle.span.proofs.Laws.{length-written, written-bit, written-outside}

-- a bit of what was zeroed, and a bit beside it

cleared-in : (l : List ℕ) (off n j : ℕ) → off ≤ j → j < off + n → j < 8 * length l → bit_at (zeroed l off n) j ≡ 0
unfolding put_bit nought
cleared-in l off n j u v h = written-bit nought nought-lt l off 0 n j h ∙ within_in off n j _ _ u v

cleared-out : (l : List ℕ) (off n j : ℕ) → Beside off n j → bit_at (zeroed l off n) j ≡ bit_at l j
cleared-out l off n j = written-outside nought nought-lt l off 0 n j

module _ (k : List ℕ) (from n : ℕ) (whole : length k ≡ 32) (fits : from + n ≤ 256) where
  length-framed : length (framed k) ≡ 35
  unfolding framed
  length-framed = simp length-append (omega arith)

  framed-bit : (i : ℕ) → 8 ≤ i → i < 264 → bit_at (framed k) i ≡ bit_at k (i - 8)
  unfolding framed
  framed-bit i u v =
      let e : i ≡ 8 + (i - 8) = omega arith in
      ap (bit_at (framed k)) e ∙ at_back (0 ∷ []) (k ++ (0 ∷ 0 ∷ [])) (i - 8) ∙ at_front k (0 ∷ 0 ∷ []) (i - 8) (omega arith)

  -- eight bits zeroed before the run, and eight after it

  front : List ℕ
  front = zeroed (framed k) from 8

  alone : List ℕ
  alone = zeroed front (from + n + 8) 8

  before : (i : ℕ) → from ≤ i → i < from + 8 → bit_at alone i ≡ 0
  unfolding front alone
  before i u v = cleared-out front (from + n + 8) 8 i (λ w. omega arith) ∙ cleared-in (framed k) from 8 i u v (omega (arith, length-framed))

  run : (i : ℕ) → from + 8 ≤ i → i < from + n + 8 → bit_at alone i ≡ bit_at k (i - 8)
  unfolding front alone
  run i u v =
      cleared-out front (from + n + 8) 8 i (λ w. omega arith) ∙ cleared-out (framed k) from 8 i (λ w. u) ∙ framed-bit i (omega arith) (omega arith)

  after : (i : ℕ) → from + n + 8 ≤ i → i < from + n + 16 → bit_at alone i ≡ 0
  unfolding front alone
  after i u v =
      cleared-in front (from + n + 8) 8 i u (omega arith) (omega (arith, length-written (framed k) nought from 0 8, length-framed))

  -- what is xored into m bits of s, from bit e = from + 8 - at of the run alone on, changes the run alone
  pub run_only : (s : List ℕ) (at e m : ℕ) → at < 8 → e + at ≡ from + 8 → at + n ≤ m → m < at + n + 8
      → xored s (bit_at (zeroed (zeroed (framed k) from 8) (from + n + 8) 8)) 0 e m ≡ xored s (bit_at k) at from n
  unfolding xored span_bit front alone
  run_only s at e m ha he lo hi =
      bytes-ext _ _ (length s)
      (λ j h.
      in-or-out at n j
      (λ u v.
      let q : e + (j - 0) - 8 ≡ from + (j - at) = omega arith in
      within_in 0 m j _ _ (omega arith) (omega arith)
      ∙ ap (bit_xor (bit_at s j)) (run (e + (j - 0)) (omega arith) (omega arith) ∙ ap (bit_at k) q)
      ∙ sym (within_in at n j _ _ u v))
      (λ w. unchanged j w ∙ sym (within-out at n j _ _ w)))
    where
      zero_bit : (j : ℕ) → Beside at n j → j < m → bit_at alone (e + (j - 0)) ≡ 0
      zero_bit j w v =
          ⊎_elim
          (λ u. before (e + (j - 0)) (omega arith) (omega arith))
          (λ u. let z = w u in after (e + (j - 0)) (omega arith) (omega arith))
          (lt-or-le j at)

      unchanged : (j : ℕ) → Beside at n j → span_bit (bit_at s) (bit_at alone) 0 e m j ≡ bit_at s j
      unchanged j w =
          in-or-out 0 m j
          (λ u v. within_in 0 m j _ _ u v ∙ ap (bit_xor (bit_at s j)) (zero_bit j w (omega arith)) ∙ xor_zero_r (bit_at s j))
          (within-out 0 m j _ _)
