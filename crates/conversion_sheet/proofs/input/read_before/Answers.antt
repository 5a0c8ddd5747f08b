-- `input::read_before`: by the name, and the three bytes behind it. Assumes nothing.
use Rattle.std.proofs.Common.{◌∙◌, sym, ap}
use Rattle.reading.specs.declared.Reading.{Reading}
use Rattle.conversion_sheet.specs.Input.{spaced_number, before_read}
use Rattle.conversion_sheet.proofs.input.read_before.Goals as goal

-- the name is read from the front

pub returns-in-Ok : goal.returns-in-Ok
unfolding before_read
returns-in-Ok c =
    rw (sym (ap (λ (r : Reading). r.good) c.in-Ok.ensures))
    (c.spaced_number.ensures ∙ (λ i. spaced_number (c.byte_at.ensures i) (c.byte_at-in-Ok.ensures i) (c.byte_at-in-Ok-2.ensures i)))

pub returns-in-Err : goal.returns-in-Err
unfolding before_read
returns-in-Err c = rw (sym (ap (λ (r : Reading). r.good) c.in-Err.ensures))
