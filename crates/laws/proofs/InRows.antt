-- Two loops that store into a state of four rows by eight columns, row by row: the inner one has passed the rows below r, and row r below c; the
-- outer one the rows below r. Assumes nothing.
use mathlib.Core.Path.{◌≡◌}
use mathlib.Core.List.{List}
use Prim.Native.Nat.{ℕ, ◌+◌, ◌%◌, ◌<◌, ◌≤◌, zero-le}
use native.Mathlib.Omega.{arith}
use Rattle.laws.specs.Lists.{grid}
use Rattle.laws.proofs.States.{Shape, put, Rows, rows_none, rows_more, rows_next, rows_all}

abbrev pub InRow : (ℕ → ℕ → ℕ) → List (List ℕ) → ℕ → ℕ → Type 0
InRow f t r c = (r < 4) × ((c ≤ 8) × Rows f t r c)

abbrev pub InRows : (ℕ → ℕ → ℕ) → List (List ℕ) → ℕ → Type 0
InRows f t r = (r ≤ 4) × Rows f t r 0

pub in-rows-none : {f : ℕ → ℕ → ℕ} {t : List (List ℕ)} → Shape t → InRows f t 0
in-rows-none s = (zero-le, rows_none s)

pub in-row-none : {f : ℕ → ℕ → ℕ} {t : List (List ℕ)} {r : ℕ} → InRows f t r → r < 4 → InRow f t r 0
in-row-none g h = (h, (zero-le, g.1))

pub in-row-more : {f : ℕ → ℕ → ℕ} {t : List (List ℕ)} {r c : ℕ} → InRow f t r c → c < 8 → (v : ℕ) → v ≡ f r c → InRow f (put t r c v) r (c + 1)
in-row-more g h v e = (g.0, (omega arith, rows_more g.1.1 g.0 h v e))

pub in-rows-more : {f : ℕ → ℕ → ℕ} {t : List (List ℕ)} {r c : ℕ} → InRow f t r c → 8 ≤ c → InRows f t (r + 1)
in-rows-more {f} {t} {r} {c} g h = (omega (arith, g.0), rows_next r c g.1.1 (omega (arith, g.1.0, h)))

pub in-rows-all : {f : ℕ → ℕ → ℕ} {t : List (List ℕ)} {r : ℕ} → InRows f t r → 4 ≤ r → t ≡ grid 4 8 f
in-rows-all g h = rows_all g.1 h

-- a row of eight that turns by none, or by eight, stays
pub not-turned : (k : ℕ) → k < 8 → (k ≡ (k + 0) % 8) × (k ≡ (k + 8) % 8)
not-turned k h = (omega arith, omega arith)
