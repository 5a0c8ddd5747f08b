-- The answers of a call that gives keystream from a bit on: refused, and done. At skip 0 they are the bench call's. Assumes nothing.
use mathlib.Core.Path.{◌≡◌, refl}
use mathlib.Core.List.{List}
use Prim.Native.Nat.{ℕ}
use borrow.Author.Tests.{eq-eqb, ne_eqb}
use Rattle.span.specs.Span.{written}
use Rattle.block_counts.specs.Counts.{blocks_used}
use Rattle.keystream.specs.Stream.{keystream}
use Rattle.bench.specs.Bench.{bench_refusal, benched, bench_blocks}
use Rattle.plain.specs.Given.{given_refusal, given_buffer, given_blocks}

module _ (algorithm : ℕ) (key iv buf : List ℕ) (n : ℕ) where
  module _ (skip : ℕ) where
    pub given-refused : (given_refusal algorithm key iv buf n skip ≡ 0 → ⊥) → (given_buffer algorithm key iv buf n skip ≡ buf) × (given_blocks algorithm key iv buf n skip ≡ 0)
    unfolding given_buffer given_blocks
    given-refused ne = let no = ne_eqb _ 0 ne in (rw no, rw no)

    pub given-done : given_refusal algorithm key iv buf n skip ≡ 0
        → (given_buffer algorithm key iv buf n skip ≡ written buf (keystream algorithm key iv) 0 skip n) × (given_blocks algorithm key iv buf n skip ≡ blocks_used skip n)
    unfolding given_buffer given_blocks
    given-done e = let yes = eq-eqb _ 0 e in (rw yes, rw yes)

  -- at skip 0
  pub given-bench : (given_refusal algorithm key iv buf n 0 ≡ bench_refusal algorithm key iv buf n) × (given_buffer algorithm key iv buf n 0 ≡ benched algorithm key iv buf n) × (given_blocks algorithm key iv buf n 0 ≡ bench_blocks algorithm key iv buf n)
  unfolding given_buffer given_blocks benched bench_blocks
  given-bench = (refl, refl, refl)
