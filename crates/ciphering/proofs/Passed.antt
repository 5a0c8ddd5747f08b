-- What an accepted run of bits has passed. Assumes nothing.
use mathlib.Core.Bool.{◌||◌}
use mathlib.Core.Path.{◌≡◌}
use Prim.Native.Nat.{ℕ, ◌+◌, ◌*◌, ◌<◌, ◌≤◌}
use native.Mathlib.Omega.{arith}
use borrow.Author.Tests.{eqb-false, ltb-false}
use lib.Dec.{eqb, ltb, lit<}
use Rattle.laws.proofs.Cases.{neither, unpicked}
use Rattle.refusals.proofs.Judged.{number-above_0}
use Rattle.block_counts.proofs.Blocks.{used_pos}
use Rattle.span.specs.Span.{longest_buffer, longest_stream}
use Rattle.ciphering.specs.Span.{span_refusal}

pub record SpanPassed (size start n skip : ℕ) : Type 0 where
  pub small : size ≤ longest_buffer
  pub some : 0 < n
  pub streamed : skip + n ≤ longest_stream
  pub inside : start + n ≤ 8 * size

pub span-passed : (size start n skip : ℕ) → span_refusal size start n skip ≡ 0 → SpanPassed size start n skip
unfolding span_refusal
span-passed size start n skip e =
    let five = unpicked (ltb longest_buffer size) 5 _ (lit< tt) e in
    let four = unpicked (eqb n 0 || ltb longest_stream (skip + n)) 4 _ (lit< tt) five.1 in
    let six = unpicked (ltb (8 * size) (start + n)) 6 _ (lit< tt) four.1 in
    record {
      small = ltb-false longest_buffer size five.0;
      some = let ne = eqb-false n 0 (neither (eqb n 0) (ltb longest_stream (skip + n)) four.0).0 in omega (arith, ne);
      streamed = ltb-false longest_stream (skip + n) (neither (eqb n 0) (ltb longest_stream (skip + n)) four.0).1;
      inside = ltb-false (8 * size) (start + n) six.0;
    }

-- what the work of an accepted call is shown by
pub ruleset work_steps = (span-passed, number-above_0, used_pos)
