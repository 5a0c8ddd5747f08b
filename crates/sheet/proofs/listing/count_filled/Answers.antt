-- `listing::count_filled`: as many as the library counts. Assumes nothing.
use Rattle.std.proofs.Common.{rules, ◌≡◌, sym, ◌∙◌}
use Rattle.std.specs.List.{count_by}
use Rattle.slots.specs.Slots.{is_filled}
use Rattle.sheet.proofs.Lines.{filled_by}
use Rattle.sheet.proofs.listing.count_filled.Goals as goal

pub returns : goal.returns
returns c =
    let counted : c.count.result ≡ count_by is_filled c.args.table = search rules in
    counted ∙ sym (filled_by c.args.table)
