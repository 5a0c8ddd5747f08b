-- A run in the tail of a buffer: what was done to the part that was lent was done to the whole. Assumes nothing.
use mathlib.Core.Path.{◌≡◌, sym, subst, ◌∙◌}
use mathlib.Core.Logic.{⊎_elim}
use mathlib.Core.List.{List, [], ◌++◌, append-nil}
use Prim.Native.Nat.{ℕ, ◌+◌, ◌-◌, ◌*◌, ◌<◌, ◌≤◌}
use native.Mathlib.Omega.{arith}
use lib.ListN.{length, take, drop, length-append, length-drop, drop_of_length-le, take-append-drop}
use lib.Seq.{take_all, length-take-le}
use borrow.Rule.Slice.PartMut.{put_mid, mid_of}
use Rattle.laws.specs.Bits.{bit_at}
use Rattle.laws.proofs.Cases.{lt-or-le}
use Rattle.laws.proofs.Bits.{at_front, at_back, bytes-are-bits}
use Rattle.span.specs.Span.{span_bit, xored}
use Rattle.span.proofs.Within.{Binary, within-out, span-shift}
use Rattle.span.proofs.Laws.{Bytes, length-xored, xored-bit}

-- a run in the second of two lists
tail-xored : (xs ys : List ℕ) (k : ℕ → ℕ) (off from n : ℕ) → Binary k → Bytes (xs ++ xored ys k off from n)
    → xs ++ xored ys k off from n ≡ xored (xs ++ ys) k (8 * length xs + off) from n
unfolding xored span_bit
tail-xored xs ys k off from n binary small =
    bytes-are-bits (xs ++ xored ys k off from n) _ (length (xs ++ ys)) (simp (length-append, length-xored)) small
    (λ j h. ⊎_elim (under j) (over j (rw length-append at h)) (lt-or-le j (8 * length xs)))
  where
    b : ℕ
    b = 8 * length xs

    under : (j : ℕ) → j < b → bit_at (xs ++ xored ys k off from n) j ≡ span_bit (bit_at (xs ++ ys)) k (b + off) from n j
    under j u = at_front xs _ j u ∙ sym (at_front xs ys j u) ∙ sym (within-out (b + off) n j _ _ (λ w. omega arith))

    over : (j : ℕ) → j < 8 * (length xs + length ys) → b ≤ j → bit_at (xs ++ xored ys k off from n) j ≡ span_bit (bit_at (xs ++ ys)) k (b + off) from n j
    over j h u =
        let e : b + (j - b) ≡ j = omega arith in
        subst (λ (m : ℕ). bit_at (xs ++ xored ys k off from n) m ≡ span_bit (bit_at (xs ++ ys)) k (b + off) from n m) e
        (at_back xs _ (j - b)
        ∙ xored-bit k binary ys off from n (j - b) (omega arith)
        ∙ span-shift (bit_at (xs ++ ys)) (bit_at ys) k b off from n (j - b) (sym (at_back xs ys (j - b))))

-- a run in the tail of s, from byte a on, that was lent and is back
pub tail-back : (s part : List ℕ) (k : ℕ → ℕ) (a off from n : ℕ) → Binary k → a ≤ length s
    → part ≡ xored (mid_of a (length s - a) s) k off from n → Bytes (put_mid a (length s - a) s part)
    → put_mid a (length s - a) s part ≡ xored s k (8 * a + off) from n
tail-back s part k a off from n binary h e small =
    joined ∙ tail-xored (take a s) (drop a s) k off from n binary (rw joined at small) ∙ rw (take-append-drop, length-take-le a s h)
  where
    middle : mid_of a (length s - a) s ≡ drop a s
    middle = take_all (length s - a) (drop a s) (simp length-drop (omega arith))

    nothing : drop (length s - a) (drop a s) ≡ []
    nothing = drop_of_length-le (drop a s) {i = length s - a} (simp length-drop (omega arith))

    joined : put_mid a (length s - a) s part ≡ take a s ++ xored (drop a s) k off from n
    joined = rw (nothing, append-nil, e, middle)
