-- `slots::table_is_bad`: the first bad slot decides. Assumes nothing.
use mathlib.Core.Path.{sym, ◌∙◌}
use borrow.Author.Tests.{tests}
use borrow.Author.Rules.{rules}
use Rattle.std.proofs.lemmas.Iterator.{YieldsList-from_slice}
use Rattle.std.proofs.lemmas.Iterator.Search.{any_from_yields_List}
use Rattle.slots.specs.Slots.{is_bad}
use Rattle.slots.proofs.Tables.{has_bad-any}
use Rattle.slots.proofs.table_is_bad.Goals as goal

pub returns : goal.returns
returns c =
    any_from_yields_List is_bad _ _ c.any.result c.any.ensures.ran (YieldsList-from_slice c.args.table cc) (λ x b q k. search (rules, tests))
    ∙ sym (has_bad-any c.args.table)
