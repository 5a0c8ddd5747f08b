-- `algorithms::combining_table`: by the number. Assumes nothing.
use mathlib.Core.Logic.{◌≢◌}
use borrow.Author.Rules.{rules}
use borrow.Author.Tests.{ne_eqb}
use Rattle.algorithms.specs.Algorithm.{combining}
use Rattle.algorithms.specs.Combining.{f_tea5, f_tea6, f_tea7}
use Rattle.algorithms.proofs.combining_table.Goals as goal

pub returns-in-5 : goal.returns-in-5
unfolding combining f_tea5 f_tea6 f_tea7
returns-in-5 c = rw c.in-5.is

pub returns-in-6 : goal.returns-in-6
unfolding combining f_tea5 f_tea6 f_tea7
returns-in-6 c = rw c.in-6.is

pub returns-in_default : goal.returns-in_default
unfolding combining f_tea5 f_tea6 f_tea7
returns-in_default c =
    let not_five : c.args.algorithm ≢ 5 = search rules in
    let not_six : c.args.algorithm ≢ 6 = search rules in
    rw (ne_eqb _ 5 not_five, ne_eqb _ 6 not_six)
