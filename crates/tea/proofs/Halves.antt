-- A loop that fills the mode key and the mode value side by side: the quick engine's and the plain one's. Assumes nothing.
use mathlib.Core.List.{List}
use mathlib.Core.Path.{◌≡◌, refl, ◌∙◌}
use Prim.Native.Nat.{ℕ, ◌+◌, ◌*◌, ◌/◌, ◌%◌, ◌<◌, ◌≤◌}
use lib.ListN.{set, replicate}
use Rattle.laws.specs.Lists.{Filled}
use Rattle.laws.proofs.Lists.{fill_none, fill_more, fill-all}
use Rattle.tea.specs.declared.mode.Mode.{Mode}
use Rattle.tea.specs.Mode.{first_of, second_of, mode_key, mode_value, mode_by}

-- bytes below k of both are made
pub record Halves (f ck ivx ckm ivm : List ℕ) (k : ℕ) : Type 0 where
  pub high : Filled (λ k. first_of f ck ivx k / 16 * 16 + second_of f ck ivx k / 16) 0 24 ckm k
  pub low : Filled (λ k. first_of f ck ivx k % 16 * 16 + second_of f ck ivx k % 16) 0 24 ivm k

pub halves-none : {f ck ivx : List ℕ} → Halves f ck ivx (replicate 24 0) (replicate 24 0) 0
halves-none = record { high = fill_none refl; low = fill_none refl }

pub halves-more : {f ck ivx ckm ivm : List ℕ} {k : ℕ} → Halves f ck ivx ckm ivm k → k < 24 → (x y u v : ℕ) → x ≡ first_of f ck ivx k → y ≡ second_of f ck ivx k
    → u ≡ x / 16 * 16 + y / 16 → v ≡ x % 16 * 16 + y % 16 → Halves f ck ivx (set ckm k u) (set ivm k v) (k + 1)
halves-more at h x y u v p q high low =
    record { high = fill_more at.high h u (high ∙ (λ i. p i / 16 * 16 + q i / 16)); low = fill_more at.low h v (low ∙ (λ i. p i % 16 * 16 + q i % 16)) }

abbrev mode : List ℕ → List ℕ → ℕ → Mode
mode key value digit = record { key = key; value = value; digit = digit }

pub halves-all : {f ck ivx ckm ivm : List ℕ} {k : ℕ} (digit : ℕ) → Halves f ck ivx ckm ivm k → 24 ≤ k → mode ckm ivm digit ≡ mode_by f digit ck ivx
unfolding mode_by mode_key mode_value
halves-all digit at h = λ i. mode (fill-all at.high h i) (fill-all at.low h i) digit
