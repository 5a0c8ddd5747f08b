-- `plain_schedule::carried`: where 6 divides i, the callees' contracts. Assumes nothing.
use mathlib.Core.Path.{refl, ap, ◌∙◌}
use Prim.Native.Nat.{ℕ, ◌*◌}
use borrow.Author.Tests.{eq-eqb, ne_eqb}
use lib.Bits.{bit_xor}
use Rattle.schedule.specs.Schedule.{sub_byte, carried}
use Rattle.plain_schedule.proofs.Words.{first_alone}
use Rattle.plain_schedule.proofs.carried.Goals as goal

pub returns-then-i-eq0 : goal.returns-then-i-eq0
unfolding carried
returns-then-i-eq0 c =
    rw (eq-eqb _ 0 c.if-i-eq0.true)
    (c.sum.ensures
    ∙ (λ i. bit_xor
    ((c.sub_byte.ensures ∙ ap sub_byte c.rot_byte.ensures) i)
    ((first_alone _ ∙ ap (λ (n : ℕ). n * 16777216) c.round_constant.ensures) i)))

pub returns : goal.returns
unfolding carried
returns c = rw (ne_eqb _ 0 c.if-i-eq0.false) refl
