-- What an accepted call with its own key has passed. Assumes nothing.
use mathlib.Core.Bool.{not}
use mathlib.Core.Path.{◌≡◌}
use Prim.Native.Nat.{ℕ}
use borrow.Author.Tests.{eqb-true, not-false}
use lib.Dec.{eqb, lit<}
use Rattle.laws.proofs.Cases.{unpicked}
use Rattle.refusals.proofs.Judged.{number-above_0}
use Rattle.fields.specs.Fields.{is_algorithm}
use Rattle.block_counts.proofs.Blocks.{used_pos}
use Rattle.bench.specs.Bench.{keyed_refusal}
use Rattle.ciphering.proofs.Passed.{SpanPassed, span-passed}

pub record KeyedPassed (key iv size start n skip : ℕ) : Type 0 where
  pub key-24 : key ≡ 24
  pub iv-10 : iv ≡ 10
  pub span : SpanPassed size start n skip

pub keyed-passed : (algorithm key iv size start n skip : ℕ) → keyed_refusal algorithm key iv size start n skip ≡ 0 → KeyedPassed key iv size start n skip
unfolding keyed_refusal
keyed-passed algorithm key iv size start n skip e =
    let one = unpicked (not (is_algorithm algorithm)) 1 _ (lit< tt) e in
    let two = unpicked (not (eqb key 24)) 2 _ (lit< tt) one.1 in
    let three = unpicked (not (eqb iv 10)) 3 _ (lit< tt) two.1 in
    record {
      key-24 = eqb-true key 24 (not-false (eqb key 24) two.0);
      iv-10 = eqb-true iv 10 (not-false (eqb iv 10) three.0);
      span = span-passed size start n skip three.1;
    }

-- what a call with its own key needs to be shown, once it is accepted or refused
pub ruleset keyed_steps = (keyed-passed, number-above_0, used_pos)
