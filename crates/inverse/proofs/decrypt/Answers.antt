-- `inverse::decrypt`: t is n rounds of what the loop began with. Assumes nothing.
use mathlib.Core.Path.{◌≡◌, refl, ap, ◌∙◌}
use Prim.Native.Nat.{◌-◌}
use native.Mathlib.Omega.{arith}
use borrow.Author.Rules.{rules}
use Rattle.inverse.specs.Decipher.{inv_round_of, inv_rounds, decrypted}
use Rattle.inverse.proofs.Turns.{inv-rounds-more}
use Rattle.inverse.proofs.decrypt.Goals as goal

pub loop-n-init : goal.loop-n-init
unfolding inv_rounds
loop-n-init c = (search rules, refl)

pub loop-n-preserved : goal.loop-n-preserved
loop-n-preserved c =
    let g = c.loop-n.invariant in
    (search rules, c.inv_round-u.ensures ∙ ap (inv_round_of _ _) g.1 ∙ inv-rounds-more _ _ _)

pub returns : goal.returns
unfolding decrypted
returns c =
    let e : c.loop-n.n ≡ 13 = omega arith in
    rw (c.inv_last_round.ensures, c.loop-n.invariant.1, e, c.add_key_of_round-t.ensures)
