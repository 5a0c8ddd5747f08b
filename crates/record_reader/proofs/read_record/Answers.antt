-- `record_reader::read_record`: the first byte tells the form of what is read. Assumes nothing.
use Rattle.std.proofs.Common.{◌∙◌, sym, ap, Bool}
use Prim.Native.Nat.{zero-le}
use Rattle.forms.specs.Form.{read_at}
use Rattle.forms.proofs.Forms.{stops, stop-within}
use Rattle.record_reader.specs.Record.{record_form, read_answer, record_read}
use Rattle.record_reader.proofs.Records.{record-means}
use Rattle.record_reader.proofs.read_record.Goals as goal

pub bad_text-requires : goal.bad_text-requires
bad_text-requires c =
    let two = c.starts_form.result in
    stop-within (stops (record_form two) (record-means two).live _ 0 _ (sym c.in-Err.ensures)) zero-le

pub returns-in-Ok : goal.returns-in-Ok
unfolding record_read
returns-in-Ok c =
    let s = c.args.text.now in
    ap (read_answer s) (c.in-Ok.ensures ∙ ap (λ (t : Bool). read_at (record_form t) s 0) c.starts_form.ensures)

pub returns-in-Err : goal.returns-in-Err
unfolding record_read
returns-in-Err c =
    let s = c.args.text.now in
    c.bad_text.ensures ∙ ap (read_answer s) (c.in-Err.ensures ∙ ap (λ (t : Bool). read_at (record_form t) s 0) c.starts_form.ensures)
