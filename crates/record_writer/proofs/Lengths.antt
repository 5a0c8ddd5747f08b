-- A number has few digits. Assumes nothing.
use Prim.Native.Nat.{ℕ, ◌^◌, ◌<◌, ◌≤◌}
use native.Mathlib.Omega.{arith}
use lib.ListN.{length}
use Rattle.writing.specs.Text.{digits}
use Rattle.writing.proofs.Digits.{digits-fit}

pub few-digits : (n : ℕ) → n < 2 ^ 64 → length (digits n) ≤ 20
few-digits n h = digits-fit 19 n (omega arith)

pub ruleset digit_steps = (few-digits)
