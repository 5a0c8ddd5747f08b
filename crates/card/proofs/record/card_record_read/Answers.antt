-- `card::record::card_record_read`: what is read of the form that the first byte tells. Assumes nothing.
use Rattle.std.proofs.Common.{Ok, Err, ap, ◌∙◌}
use Rattle.faces.specs.Faces.{read_out}
use Rattle.record_reader.proofs.Records.{front_within, lines_answer}
use Rattle.card.proofs.record.card_record_read.Goals as goal

pub bad_text-bad-requires : goal.bad_text-bad-requires
bad_text-bad-requires c = front_within c.starts_form.result c.args.text.now (Err c.in-Err.wrong) c.in-Err.ensures

pub returns-in-Ok : goal.returns-in-Ok
returns-in-Ok c =
    rw (c.shown_numbers.ensures)
    (ap read_out (lines_answer c.args.text.now c.starts_form.result (Ok c.in-Ok.record) c.starts_form.ensures c.in-Ok.ensures))

pub returns-in-Err : goal.returns-in-Err
returns-in-Err c =
    rw (c.number.ensures)
    (ap read_out (c.bad_text-bad.ensures ∙ lines_answer c.args.text.now c.starts_form.result (Err c.in-Err.wrong) c.starts_form.ensures c.in-Err.ensures))
