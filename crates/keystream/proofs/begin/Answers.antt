-- `keystream::begin`: the schedule, by the callee's contract, and one counted. Assumes nothing.
use mathlib.Core.Path.{refl}
use Rattle.keystream.proofs.begin.Goals as goal

pub returns : goal.returns
returns c = (c.fill_schedule.ensures, refl)
