-- `gf256::twice`: by one test of 256. Assumes nothing.
use borrow.Author.Rules.{rules}
use Rattle.gf256.proofs.Doubling.{is-double}
use Rattle.gf256.proofs.twice.Goals as goal

pub returns : goal.returns
returns c = is-double c.args.b (search rules)
