-- The largest number of a part, of any. Assumes nothing.
use mathlib.Core.Bool.{Bool, true, false}
use Prim.Native.Nat.{ℕ, ◌≤◌}
use native.Mathlib.Omega.{arith}
use lib.Dec.{eqb}
use Rattle.laws.specs.Choice.{pick}
use Rattle.logged_calls.specs.Log.{largest_number, largest_code}
use Rattle.call_log.specs.Fed.{high_of, final_part}

pub high-most : (part : ℕ) → high_of part ≤ largest_number
unfolding high_of
high-most part = go (eqb part final_part)
  where
    go : (t : Bool) → pick t largest_code largest_number ≤ largest_number
    go true = omega arith
    go false = omega arith
