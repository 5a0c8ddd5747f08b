-- `inv_bytes::InvSBox::substitute`: by what the table is. Assumes nothing.
use borrow.Author.Rules.{rules}
use Rattle.inv_bytes.specs.Bytes.{inv_s_box, inv_s_boxes}
use Rattle.laws.proofs.Lists.{tabulate-at}
use Rattle.inv_bytes.proofs.InvSBox.substitute.Goals as goal

pub returns : goal.returns
unfolding inv_s_boxes
returns c = tabulate-at inv_s_box 0 c.args.self.now.is_inv_s_box c.args.b (search rules)
