-- `products::ProductTable::share`: by what the table is. Assumes nothing.
use mathlib.Core.Path.{refl, ◌∙◌}
use Prim.Native.Nat.{◌+◌, ◌*◌, ◌/◌, ◌%◌, ◌<◌}
use native.Mathlib.Omega.{arith}
use borrow.Author.Rules.{rules}
use Rattle.laws.proofs.Lists.{tabulate-at}
use Rattle.gf256.specs.Field.{s_box}
use Rattle.products.specs.Products.{share, products}
use Rattle.products.proofs.Table.{share-at}
use Rattle.products.proofs.ProductTable.share.Goals as goal

pub returns : goal.returns
unfolding products
returns c =
    let b = c.args.b in
    let k = c.args.place in
    let byte : b < 256 = search rules in
    tabulate-at (λ i. share (s_box (i / 8)) (i % 8)) 0 c.args.self.now.is_products (8 * b + k) (omega arith) ∙ share-at b k (8 * b + k) c.requires refl
