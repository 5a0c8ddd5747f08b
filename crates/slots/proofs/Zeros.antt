-- A list of bytes that is all zero, byte by byte. Assumes nothing.
use mathlib.Core.Bool.{◌&&◌, and_assoc, and-true}
use mathlib.Core.List.{List}
use mathlib.Core.Path.{◌≡◌}
use Prim.Native.Nat.{ℕ, suc, ◌+◌, ◌<◌, ◌≤◌}
use native.Mathlib.Numerals.{add-one}
use lib.Bits.{bit_or}
use lib.Dec.{eqb}
use lib.ListN.{length, get_or, drop, drop_of_length-le}
use lib.Seq.{drop-cons}
use Rattle.laws.proofs.Bits.{or-none}
use Rattle.slots.specs.Slots.{all_zero}

-- one byte more is joined to what stands for the bytes before it
pub zeros-more : (l : List ℕ) (i x : ℕ) → i < length l
    → eqb (bit_or x (get_or l i 0)) 0 && all_zero (drop (i + 1) l) ≡ eqb x 0 && all_zero (drop i l)
unfolding all_zero
zeros-more l i x h =
    rw (or-none, add-one, drop-cons l i 0 h) (and_assoc (eqb x 0) (eqb (get_or l i 0) 0) (all_zero (drop (suc i) l)))

-- no byte is left
pub zeros-all : (l : List ℕ) (i x : ℕ) → length l ≤ i → eqb x 0 && all_zero (drop i l) ≡ eqb x 0
unfolding all_zero
zeros-all l i x h = rw (drop_of_length-le l h) (and-true (eqb x 0))
