-- `record_writer::put_key`: the name, the bytes, LF. Assumes nothing.
use Rattle.writing.proofs.Puts.{put_then}
use Rattle.record_writer.proofs.put_key.Goals as goal

pub returns : goal.returns
returns c =
    put_then c.put_bytes-value.ensures (put_then c.put_hex-end.ensures c.put_bytes.ensures)
