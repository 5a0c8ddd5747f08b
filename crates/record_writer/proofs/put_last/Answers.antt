-- `record_writer::put_last`: line after line. Assumes nothing.
use Rattle.writing.proofs.Puts.{put_then}
use Rattle.record_writer.proofs.put_last.Goals as goal

pub returns : goal.returns
returns c =
    put_then c.put_line-place.ensures
    (put_then c.put_line-mcc.ensures (put_then c.put_line-mnc.ensures (put_then c.put_line-last.ensures c.put_key.ensures)))
