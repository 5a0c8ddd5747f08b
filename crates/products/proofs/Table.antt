-- The rule of the table, by one computed test over its entries. Assumes nothing.
use mathlib.Core.Bool.{Bool, ◌&&◌}
use mathlib.Core.List.{List}
use mathlib.Core.Path.{◌≡◌, sym, ap, ◌∙◌}
use Prim.Native.Nat.{ℕ, ◌+◌, ◌*◌, ◌/◌, ◌%◌, ◌<◌, zero-le}
use native.Mathlib.Nat.{zero-add}
use native.Mathlib.Omega.{arith}
use lib.Dec.{T, eqb, eqb→eq}
use lib.ListN.{length, get_or}
use Rattle.laws.specs.Lists.{tabulate}
use Rattle.laws.proofs.Lists.{tabulate-ext}
use Rattle.laws.proofs.Tests.{all, between, agree, pass-left, pass-right}
use Rattle.gf256.specs.Field.{s_box}
use Rattle.products.specs.Products.{share}

-- an entry of the table
pub share-at : (b k i : ℕ) → k < 8 → i ≡ 8 * b + k → share (s_box (i / 8)) (i % 8) ≡ share (s_box b) k
share-at b k i h e =
    let p : i / 8 ≡ b = omega arith in
    let q : i % 8 ≡ k = omega arith in
    λ j. share (s_box (p j)) (q j)

-- the test of eight entries: the second is the S-box value, and all are its shares
module _ (entries : List ℕ) where
  abbrev value : ℕ → ℕ
  value b = get_or entries (8 * b + 1) 0

  abbrev first : ℕ → Bool
  first b = eqb (value b) (s_box b)

  abbrev others : ℕ → Bool
  others b = all (λ k. eqb (get_or entries (8 * b + k) 0) (share (value b) k)) 0 8

  abbrev eight : ℕ → Bool
  eight b = first b && others b

  tested : (b : ℕ) → T (eight b) → (k : ℕ) → k < 8 → get_or entries (8 * b + k) 0 ≡ share (s_box b) k
  tested b t k h =
      agree (λ k. get_or entries (8 * b + k) 0) (share (value b)) 0 8 (pass-right (first b) (others b) t) k zero-le h
      ∙ ap (λ (s : ℕ). share s k) (eqb→eq (value b) (s_box b) (pass-left (first b) (others b) t))

  -- a list that passes it for each byte is the table. It goes by bytes, since a test by entries has too large numbers in it
  pub by-eight : length entries ≡ 2048 → T (all eight 0 256) → entries ≡ tabulate (λ i. share (s_box (i / 8)) (i % 8)) 0 2048
  by-eight long test =
      tabulate-ext (λ i. share (s_box (i / 8)) (i % 8)) 0 2048 0 entries long
      (λ i h.
      let p : i ≡ 8 * (i / 8) + i % 8 = omega arith in
      ap (λ (m : ℕ). get_or entries m 0) p
      ∙ tested (i / 8) (between eight 0 256 test (i / 8) zero-le (omega arith)) (i % 8) (omega arith)
      ∙ ap (λ (m : ℕ). share (s_box (m / 8)) (m % 8)) (sym (zero-add i)))
