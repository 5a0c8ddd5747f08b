-- `gf256::SBox::substitute`: by what the table is. Assumes nothing.
use borrow.Author.Rules.{rules}
use Rattle.gf256.specs.Field.{s_box, s_boxes}
use Rattle.laws.proofs.Lists.{tabulate-at}
use Rattle.gf256.proofs.SBox.substitute.Goals as goal

pub returns : goal.returns
unfolding s_boxes
returns c = tabulate-at s_box 0 c.args.self.now.is_s_box c.args.b (search rules)
