-- `rijndael::encrypt`: t is, as a state, rounds 1 to n - 1 of what the loop began with. Assumes nothing.
use mathlib.Core.Path.{◌≡◌, refl, ap, ◌∙◌}
use Prim.Native.Nat.{◌-◌}
use native.Mathlib.Omega.{arith}
use borrow.Author.Rules.{rules}
use Rattle.rijndael.specs.Cipher.{rounds, encrypted}
use Rattle.round_steps.specs.Steps.{round_of}
use Rattle.rounds.specs.Columns.{of_words}
use Rattle.rijndael.proofs.Rounds.{rounds-more}
use Rattle.rijndael.proofs.encrypt.Goals as goal

pub loop-n-init : goal.loop-n-init
unfolding rounds
loop-n-init c = (search rules, (refl, c.pair_of-pair.ensures))

pub loop-n-preserved : goal.loop-n-preserved
loop-n-preserved c =
    let g = c.loop-n.invariant in
    let more = c.to_words-u.ensures ∙ c.round.ensures ∙ ap (round_of _ _) (c.from_words.ensures ∙ ap of_words c.with_pair.ensures ∙ g.1.0) ∙ rounds-more _ _ _ g.0.0 in
    (search rules, (more, c.pair_of-pair-in-loop-n.ensures))

pub returns : goal.returns
unfolding encrypted
returns c =
    let e : c.loop-n.n - 1 ≡ 13 = omega arith in
    rw (c.last_round.ensures, c.from_words-2.ensures, c.with_pair-2.ensures, c.loop-n.invariant.1.0, e, c.first_keyed_words-t.ensures)
