-- `schedule::more_words`: `Filled` to 6 k, whatever the key, and `last` is word 6 k - 1. Assumes nothing.
use mathlib.Core.Path.{◌≡◌, refl}
use Prim.Native.Nat.{◌+◌, ◌-◌, ◌*◌}
use native.Mathlib.Omega.{arith}
use borrow.Author.Rules.{rules}
use Rattle.laws.proofs.Lists.{fill-to}
use Rattle.schedule.proofs.more_words.Goals as goal

pub loop-k-init : goal.loop-k-init
loop-k-init c = (search rules, search rules, refl, λ key g. g)

pub loop-k-preserved : goal.loop-k-preserved
loop-k-preserved c =
    let g = c.loop-k.invariant in
    let e = c.six_words-last.ensures in
    let q : 6 * (c.loop-k.k + 1) - 1 ≡ 6 * c.loop-k.k + 5 = omega arith in
    (search rules, search rules, rw q e.0, λ key h. fill-to (e.1 key (g.3 key h)) (omega arith))

pub returns : goal.returns
returns c = λ key g. fill-to (c.loop-k.invariant.3 key g) (omega arith)
