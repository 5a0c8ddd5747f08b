-- `inv_bytes::inv_mixed_byte`: by the products' contracts. Assumes nothing.
use lib.Bits.{bit_xor}
use Rattle.inv_bytes.specs.Bytes.{inv_mixed_byte}
use Rattle.inv_bytes.proofs.inv_mixed_byte.Goals as goal

pub returns : goal.returns
unfolding inv_mixed_byte
returns c =
    λ i.
    bit_xor (bit_xor (bit_xor (c.product.ensures i) (c.product-2.ensures i)) (c.product-3.ensures i))
    (c.product-4.ensures i)
