-- `slot_list::has_bad`: each slot is tested as it stands, and the first bad one decides. Assumes nothing.
use mathlib.Core.Path.{sym, ◌∙◌}
use borrow.Author.Rules.{rules}
use borrow.Author.Tests.{tests}
use Rattle.std.proofs.lemmas.Iterator.{YieldsList-from_slice}
use Rattle.std.proofs.lemmas.Iterator.Search.{any_from_yields_List}
use Rattle.slots.specs.Slots.{is_filled, is_bad}
use Rattle.slots.proofs.Tables.{has_bad-any}
use Rattle.slot_list.proofs.has_bad.Goals as goal

pub returns : goal.returns
unfolding is_bad is_filled
returns c =
    let ys = c.args.t.now in
    any_from_yields_List is_bad _ _ c.any.result c.any.ensures.ran (YieldsList-from_slice ys cc) (λ x b q k. search (rules, tests)) ∙ sym (has_bad-any ys)
