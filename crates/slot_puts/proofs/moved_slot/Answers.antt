-- `slot_puts::moved_slot`: a use that stays within another is a use, and fits a byte. Assumes nothing.
use native.Mathlib.Omega.{arith}
use Rattle.laws.proofs.Cases.{and_left}
use Rattle.fields.specs.Fields.{is_use}
use Rattle.fields.proofs.Ranges.{between-high}
use Rattle.rights.specs.Rights.{moved_use}
use Rattle.slot_puts.proofs.moved_slot.Goals as goal

pub overflow_cast-moved : goal.overflow_cast-moved
overflow_cast-moved c =
    let u = moved_use c.args.slot.fields.usage c.args.asked in
    omega (arith, c.moved_use.ensures, between-high 1 u 3 (and_left (is_use u) _ c.requires))
