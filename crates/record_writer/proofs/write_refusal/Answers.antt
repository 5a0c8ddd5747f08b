-- `record_writer::write_refusal`: the length is the text's where no right is refused. Assumes nothing.
use native.Mathlib.Omega.{arith}
use Rattle.std.proofs.lemmas.Grind.{common_steps}
use Rattle.refusals.proofs.Judged.{number-above_0}
use Rattle.record_writer.specs.Written.{write_refusal}
use Rattle.record_writer.proofs.Refusals.{written-length}
use Rattle.record_writer.proofs.write_refusal.Goals as goal

pub returns-in_err-rights_refusal : goal.returns-in_err-rights_refusal
unfolding write_refusal
returns-in_err-rights_refusal c key size = grind (arith, common_steps, number-above_0)

pub returns : goal.returns
unfolding write_refusal
returns c key size =
    let e = written-length c.args.number c.args.asked key in
    grind (arith, common_steps, e)
