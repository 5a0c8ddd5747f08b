-- The laws of a sequence that is given by a window. Assumes nothing.
use mathlib.Core.Path.{◌≡◌, sym, ap, ◌∙◌}
use mathlib.Core.List.{List, []}
use Prim.Native.Nat.{ℕ, zero, suc, ◌+◌, ◌<◌}
use native.Mathlib.Nat.{add-zero, add-suc, suc-add, zero-add}
use native.Mathlib.Omega.{arith}
use lib.ListN.{length, get_or, drop, length-append, length-drop, get_or-append}
use lib.Seq.{get_or-drop, get_or_at}
use Rattle.laws.specs.Lists.{window, sequence}

module _ (step : ℕ → List ℕ → ℕ) (init : List ℕ) (n : ℕ) (long : length init ≡ suc n) where
  pub length-window : (i : ℕ) → length (window step init i) ≡ suc n
  unfolding window
  length-window zero = long
  length-window (suc i) = let e : length (window step init i) ≡ suc n = length-window i in simp (length-append, length-drop) (omega arith)

  moved : (i k : ℕ) → k < n → get_or (window step init (suc i)) k 0 ≡ get_or (window step init i) (suc k) 0
  unfolding window
  moved i k h =
      let e : length (window step init i) ≡ suc n = length-window i in
      get_or-append (drop 1 (window step init i)) _ 0 k (simp length-drop (omega arith)) ∙ get_or-drop 1 (window step init i) k 0 ∙ ap (λ (m : ℕ). get_or (window step init i) m 0) (omega arith)

  made : (i : ℕ) → get_or (window step init (suc i)) n 0 ≡ step i (window step init i)
  unfolding window
  made i =
      let e : length (window step init i) ≡ suc n = length-window i in
      get_or_at (drop 1 (window step init i)) _ [] 0 n (simp length-drop (omega arith))

  -- the window's entry k is the sequence's entry k further on
  pub window-at : (i k : ℕ) → k < suc n → get_or (window step init i) k 0 ≡ sequence step init (i + k)
  unfolding window sequence
  window-at i zero h = rw add-zero
  window-at i (suc k) h = sym (moved i k (omega arith)) ∙ window-at (suc i) k (omega arith) ∙ ap (sequence step init) (suc-add i k ∙ sym (add-suc i k))

  pub sequence-first : (i : ℕ) → i < suc n → sequence step init i ≡ get_or init i 0
  unfolding window
  sequence-first i h = ap (sequence step init) (sym (zero-add i)) ∙ sym (window-at 0 i h)

  pub sequence-next : (i : ℕ) → sequence step init (i + suc n) ≡ step i (window step init i)
  sequence-next i =
      ap (sequence step init) (add-suc i n ∙ sym (suc-add i n)) ∙ sym (window-at (suc i) n (omega arith)) ∙ made i
