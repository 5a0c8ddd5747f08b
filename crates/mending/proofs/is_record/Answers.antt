-- `mending::is_record`: by what the reader answers. Assumes nothing.
use Rattle.std.proofs.Common.{ap, ◌&&◌, eqb, length}
use Rattle.refusals.specs.Numbers.{done}
use Rattle.record_reader.specs.Record.{RecordRead}
use Rattle.mending.specs.Changes.{is_record}
use Rattle.mending.proofs.is_record.Goals as goal

pub returns-in-Ok : goal.returns-in-Ok
unfolding is_record
returns-in-Ok c = ap (λ (r : RecordRead). eqb r.refusal done && eqb r.used (length c.args.s.now)) c.in-Ok.ensures

pub returns-in-Err : goal.returns-in-Err
unfolding is_record
returns-in-Err c = ap (λ (r : RecordRead). eqb r.refusal done && eqb r.used (length c.args.s.now)) c.in-Err.ensures
