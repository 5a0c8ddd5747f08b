-- `month_sheet::month_of_log`: the figures begin at 0, and the log is one block. Assumes nothing.
use mathlib.Core.Path.{◌≡◌, ap, ◌∙◌}
use Rattle.call_log.specs.Fed.{Fed, fed_to, fed}
use Rattle.month_sheet.specs.Sheet.{whole_log, printed_length, printed_buffer}
use Rattle.month_sheet.proofs.Printed.{zeros-are}
use Rattle.month_sheet.proofs.month_of_log.Goals as goal

pub returns : goal.returns
unfolding whole_log
returns c =
    let e : fed_to c.feed-m.result c.feed-m.new.figures ≡ whole_log c.args.log.now =
    c.feed-m.ensures ∙ (λ i. fed (fed_to (c.start.ensures i) (zeros-are i)) c.args.log.now) in
    (c.print.ensures.0 ∙ ap (λ (f : Fed). printed_length f c.args.buffer.now) e, c.print.ensures.1 ∙ ap (λ (f : Fed). printed_buffer f c.args.buffer.now) e)
