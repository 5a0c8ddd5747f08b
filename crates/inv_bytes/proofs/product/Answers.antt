-- `inv_bytes::product`: by `product_is`. Assumes nothing.
use mathlib.Core.Path.{◌∙◌}
use borrow.Author.Rules.{rules}
use lib.Bits.{bit_xor}
use Rattle.inv_bytes.proofs.Products.{product_is}
use Rattle.inv_bytes.proofs.product.Goals as goal

pub returns : goal.returns
returns c =
    let a = c.args in
    (λ i. bit_xor (c.chosen.ensures i) (bit_xor (c.chosen-2.ensures i) (bit_xor (c.chosen-3.ensures i) (c.chosen-4.ensures i))))
    ∙ product_is a.k a.b c.twice-two.result c.twice-four.result c.twice-eight.result c.requires (search rules) (search rules) (search rules) (search rules)
    c.twice-two.ensures c.twice-four.ensures c.twice-eight.ensures
