-- `record_writer::write_record`: the text is put where nothing refuses it. Assumes nothing.
use mathlib.Core.Path.{sym, ap, ◌∙◌}
use native.Mathlib.Omega.{arith}
use Rattle.refusals.specs.Refused.{number_of}
use Rattle.record_writer.proofs.Refusals.{room, written}
use Rattle.record_writer.proofs.write_record.Goals as goal

pub put_record-requires : goal.put_record-requires
put_record-requires c =
    room _ _ _ _ (sym (c.write_refusal.ensures c.args.key (omega arith)) ∙ ap number_of c.in_ok-write_refusal.was)

pub returns : goal.returns
returns c =
    written _ _ _ _ (sym (c.write_refusal.ensures c.args.key (omega arith)) ∙ ap number_of c.in_ok-write_refusal.was) c.put_record.ensures
