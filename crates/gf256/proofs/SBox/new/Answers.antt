-- `gf256::SBox::new`: the table's rule, by one test of 256 entries. Assumes nothing.
use mathlib.Core.Path.{refl}
use Rattle.gf256.specs.Field.{inverse, affine, s_box, s_boxes}
use Rattle.gf256.proofs.Table.{table_of}
use Rattle.gf256.proofs.SBox.new.Goals as goal

pub invariant_of-result : goal.invariant_of-result
unfolding s_boxes s_box affine inverse
invariant_of-result c = record { is_s_box = table_of _ s_box refl tt }
