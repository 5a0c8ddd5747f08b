-- What the tests of the fields say of the numbers. Assumes nothing.
use mathlib.Core.Bool.{true, ◌&&◌}
use mathlib.Core.Path.{◌≡◌}
use Prim.Native.Nat.{ℕ, ◌≤◌}
use borrow.Author.Tests.{leb-true}
use lib.Dec.{leb}
use Rattle.laws.proofs.Cases.{and_left, and_right}
use Rattle.fields.specs.declared.Asked.{Asked}
use Rattle.fields.specs.Fields.{between, is_algorithm, is_use, is_side, is_place, is_mcc, is_mnc, all_in_range}

pub between-low : (low n high : ℕ) → between low n high ≡ true → low ≤ n
between-low low n high e = leb-true low n (and_left (leb low n) (leb n high) e)

pub between-high : (low n high : ℕ) → between low n high ≡ true → n ≤ high
between-high low n high e = leb-true n high (and_right (leb low n) (leb n high) e)

module _ (a : Asked) (e : all_in_range a ≡ true) where
  pub algorithm-high : a.algorithm ≤ 7
  algorithm-high = between-high 5 a.algorithm 7 (and_left (is_algorithm a.algorithm) _ e)

  past-algorithm : is_use a.usage && (is_side a.side && (is_place a.place && (is_mcc a.mcc && is_mnc a.mnc))) ≡ true
  past-algorithm = and_right (is_algorithm a.algorithm) _ e

  pub use-high : a.usage ≤ 3
  use-high = between-high 1 a.usage 3 (and_left (is_use a.usage) _ past-algorithm)

  past-use : is_side a.side && (is_place a.place && (is_mcc a.mcc && is_mnc a.mnc)) ≡ true
  past-use = and_right (is_use a.usage) _ past-algorithm

  pub side-high : a.side ≤ 1
  side-high = leb-true a.side 1 (and_left (is_side a.side) _ past-use)

  past-side : is_place a.place && (is_mcc a.mcc && is_mnc a.mnc) ≡ true
  past-side = and_right (is_side a.side) _ past-use

  pub place-high : a.place ≤ 79
  place-high = leb-true a.place 79 (and_left (is_place a.place) _ past-side)

  past-place : is_mcc a.mcc && is_mnc a.mnc ≡ true
  past-place = and_right (is_place a.place) _ past-side

  pub mcc-high : a.mcc ≤ 1023
  mcc-high = leb-true a.mcc 1023 (and_left (is_mcc a.mcc) _ past-place)

  pub mnc-high : a.mnc ≤ 16383
  mnc-high = leb-true a.mnc 16383 (and_right (is_mcc a.mcc) _ past-place)
