-- `month_sheet::print`: the sheet or the line, where there is room. Assumes nothing.
use mathlib.Core.Path.{refl, sym, ap, ◌∙◌}
use native.Mathlib.Omega.{arith}
use borrow.Author.Tests.{lt-ltb}
use Rattle.writing.proofs.Puts.{put_as}
use mathlib.Core.List.{◌++◌}
use Rattle.writing.specs.Text.{digits, item, line_text}
use Rattle.call_log.specs.Fed.{fed_to}
use Rattle.month_sheet.specs.Sheet.{wrong_line_text, printed_length, printed_buffer}
use Rattle.month_sheet.proofs.Lengths.{refused-short}
use Rattle.month_sheet.proofs.Printed.{printed, printed-sheet, printed-refused}
use borrow.Author.Rules.{rules}
use Rattle.month_sheet.proofs.print.Goals as goal

pub returns-then-buffer-lt-ROOM : goal.returns-then-buffer-lt-ROOM
unfolding printed_length printed_buffer
returns-then-buffer-lt-ROOM c = rw (lt-ltb _ _ c.if-buffer-lt-ROOM.true) (refl, refl)

pub returns-then-line-eq0 : goal.returns-then-line-eq0
returns-then-line-eq0 c =
    let f = fed_to c.args.m c.args.figures.now in
    let put = c.put_sheet.ensures in
    printed f _ c.if-buffer-lt-ROOM.false put.0 (put_as (sym (printed-sheet f (sym c.wrong_line-line.ensures ∙ c.if-line-eq0.true))) put.1)

pub put_pair-requires : goal.put_pair-requires
unfolding wrong_line_text
put_pair-requires c =
    rw (c.from-refusal.ensures ∙ c.number.ensures)
    (record { fits = omega (arith, refused-short c.wrong_line-line.result (search rules)) })

pub returns : goal.returns
unfolding wrong_line_text
returns c =
    let f = fed_to c.args.m c.args.figures.now in
    let line = c.wrong_line-line.ensures in
    let number = c.from-refusal.ensures ∙ c.number.ensures in
    let put = put_as (λ i. item "refused=" (digits (number i)) ++ line_text " line=" (digits c.wrong_line-line.result)) c.put_pair.ensures in
    printed f _ c.if-buffer-lt-ROOM.false (omega (arith, put.ends, refused-short c.wrong_line-line.result (search rules)))
    (put_as (ap wrong_line_text line ∙ sym (printed-refused f (λ e. c.if-line-eq0.false (line ∙ e)))) put)
