-- `line_names::has_name`: by the name of the number. Assumes nothing.
use Rattle.std.proofs.Common.{arith, rules}
use borrow.Author.Tests.{ne_eqb, le-ltb}
use Rattle.line_names.specs.Names.{form_name, mcc_name, mnc_name, name_count, has_name}
use Rattle.line_names.proofs.Same.{by_number}
use Rattle.line_names.proofs.has_name.Goals as goal

pub returns : goal.returns
unfolding has_name
returns c =
    by_number (has_name c.args.two) c.args.k _ _ _
    (λ e h. rw (ne_eqb c.args.k form_name (λ z. omega arith), ne_eqb c.args.k mcc_name (λ z. omega arith), ne_eqb c.args.k mnc_name (λ z. omega arith), le-ltb c.args.k name_count h) e)
    (λ name h. search rules) c.get.result c.get.ensures.lookup c.is_some_and.ensures
