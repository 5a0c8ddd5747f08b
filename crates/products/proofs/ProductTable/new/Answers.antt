-- `products::ProductTable::new`: the table's rule, by one test of its 2,048 entries. Assumes nothing.
use mathlib.Core.Path.{refl}
use Rattle.gf256.specs.Field.{times, inverse, affine, s_box}
use Rattle.products.specs.Products.{share, products}
use Rattle.products.proofs.Table.{by-eight}
use Rattle.products.proofs.ProductTable.new.Goals as goal

pub invariant_of-result : goal.invariant_of-result
unfolding products share times s_box affine inverse
invariant_of-result c = record { is_products = by-eight _ refl tt }
