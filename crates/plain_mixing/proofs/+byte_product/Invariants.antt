-- `plain_mixing::byte` and `plain_mixing::product`, which call each other: i falls, and the product of i lies between byte i and byte i - 1.
-- Assumes nothing.
use Prim.Native.Nat.{◌+◌}
use Rattle.plain_mixing.proofs.+byte_product.Given as goal

abbrev pub decreases-byte : goal.decreases-byte
decreases-byte l = l.i + l.i + 1

abbrev pub decreases-product : goal.decreases-product
decreases-product l = l.i + l.i
