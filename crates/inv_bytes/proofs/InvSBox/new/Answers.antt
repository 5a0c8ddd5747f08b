-- `inv_bytes::InvSBox::new`: the table's rule, by one test of 256 entries. Assumes nothing.
use mathlib.Core.Path.{refl}
use Rattle.gf256.specs.Field.{inverse}
use Rattle.gf256.proofs.Table.{table_of}
use Rattle.inv_bytes.specs.Bytes.{inv_affine, inv_s_box, inv_s_boxes}
use Rattle.inv_bytes.proofs.InvSBox.new.Goals as goal

pub invariant_of-result : goal.invariant_of-result
unfolding inv_s_boxes inv_s_box inv_affine inverse
invariant_of-result c = record { is_inv_s_box = table_of _ inv_s_box refl tt }
