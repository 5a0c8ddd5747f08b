-- `plain_rounds::shift_of`: row by row. Assumes nothing.
use mathlib.Core.Path.{◌≡◌, sym, ap}
use native.Mathlib.Omega.{arith}
use Rattle.round_steps.specs.Steps.{shift_of}
use Rattle.plain_rijndael.proofs.steps.shift_of.Goals as goal

pub returns-in_default : goal.returns-in_default
returns-in_default c =
    let e : c.args.r ≡ 3 = omega arith in
    sym (ap shift_of e)
