-- `plain_rijndael::encrypt`: t is rounds 1 to n - 1 of what the loop began with. Assumes nothing.
use mathlib.Core.Path.{◌≡◌, refl, ap, ◌∙◌}
use Prim.Native.Nat.{◌-◌}
use native.Mathlib.Omega.{arith}
use borrow.Author.Rules.{rules}
use Rattle.rijndael.specs.Cipher.{rounds, encrypted}
use Rattle.round_steps.specs.Steps.{round_of}
use Rattle.rijndael.proofs.Rounds.{rounds-more}
use Rattle.plain_rijndael.proofs.encrypt.Goals as goal

pub loop-n-init : goal.loop-n-init
unfolding rounds
loop-n-init c = (search rules, refl)

pub loop-n-preserved : goal.loop-n-preserved
loop-n-preserved c =
    let g = c.loop-n.invariant in
    (search rules, c.round-u.ensures ∙ ap (round_of _ _) g.1 ∙ rounds-more _ _ _ g.0.0)

pub returns : goal.returns
unfolding encrypted
returns c =
    let e : c.loop-n.n - 1 ≡ 13 = omega arith in
    rw (c.final_round.ensures, c.loop-n.invariant.1, e, c.add_round_key-t.ensures)
