-- `plain_schedule::round_constant`: one doubling a turn. Assumes nothing.
use mathlib.Core.Path.{◌≡◌, refl, ap, ◌∙◌}
use Prim.Native.Nat.{ℕ, ◌+◌, ◌-◌}
use native.Mathlib.Numerals.{add-one}
use native.Mathlib.Omega.{arith}
use borrow.Author.Rules.{rules}
use Rattle.gf256.specs.Field.{times_z}
use Rattle.schedule.specs.Schedule.{round_constant}
use Rattle.plain_schedule.proofs.round_constant.Goals as goal

-- one doubling more

constant-more : (n : ℕ) → times_z (round_constant n) ≡ round_constant (n + 1)
unfolding round_constant
constant-more n = rw add-one

pub loop-init : goal.loop-init
unfolding round_constant
loop-init c = (search rules, refl)

pub loop-preserved : goal.loop-preserved
loop-preserved c = (search rules, c.xtime-c.ensures ∙ ap times_z c.loop.invariant.1 ∙ constant-more _)

pub returns : goal.returns
returns c =
    let e : c.loop.counter ≡ c.args.n = omega arith in
    c.loop.invariant.1 ∙ ap round_constant e
