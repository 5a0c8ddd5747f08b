-- One round of the inverse more. Assumes nothing.
use mathlib.Core.Path.{◌≡◌}
use mathlib.Core.List.{List}
use Prim.Native.Nat.{ℕ, ◌+◌, ◌-◌}
use native.Mathlib.Numerals.{add-one}
use Rattle.inverse.specs.Decipher.{inv_round_of, inv_rounds}

pub inv-rounds-more : (w : List ℕ) (s : List (List ℕ)) (n : ℕ) → inv_round_of w (13 - n) (inv_rounds w s n) ≡ inv_rounds w s (n + 1)
unfolding inv_rounds
inv-rounds-more w s n = rw add-one
