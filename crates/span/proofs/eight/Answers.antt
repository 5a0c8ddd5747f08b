-- Eight bits of two bytes, each shifted by itself. Assumes nothing.
use borrow.Author.Rules.{rules}
use Rattle.span.proofs.Stores.{eight_parts}
use Rattle.span.proofs.eight.Goals as goal

pub returns : goal.returns
returns c = eight_parts c.args.a c.args.b c.args.o (search rules) (search rules) (search rules)
