-- `line_names::is_decimal`: by the name of the number. Assumes nothing.
use Rattle.std.proofs.Common.{arith, rules}
use borrow.Author.Tests.{ne_eqb}
use Rattle.line_names.specs.Names.{alg_name, use_name, key_name, is_decimal}
use Rattle.line_names.proofs.Same.{by_number}
use Rattle.line_names.proofs.is_decimal.Goals as goal

pub returns : goal.returns
unfolding is_decimal
returns c =
    by_number is_decimal c.args.k _ _ _
    (λ e h. rw (ne_eqb c.args.k alg_name (λ z. omega arith), ne_eqb c.args.k use_name (λ z. omega arith), ne_eqb c.args.k key_name (λ z. omega arith)) (search rules))
    (λ name h. search rules) c.get.result c.get.ensures.lookup c.is_none_or.ensures
