-- `plain_schedule::key_expansion`: the words below i are right. Assumes nothing.
use mathlib.Core.Path.{◌≡◌, refl, ◌∙◌}
use mathlib.Core.List.{List}
use Prim.Native.Nat.{ℕ, ◌+◌, ◌-◌, ◌<◌}
use native.Mathlib.Omega.{arith}
use borrow.Author.Rules.{rules}
use lib.ListN.{length, set, length-set}
use Rattle.schedule.specs.Schedule.{key_word}
use Rattle.schedule.proofs.KeyWords.{word_first}
use Rattle.plain_schedule.specs.Bytes.{word_of}
use Rattle.plain_schedule.proofs.Words.{Expanded, expanded-more, expanded-next, expanded-all}
use Rattle.plain_schedule.proofs.key_expansion.Goals as goal
use Rattle.plain_schedule.proofs.key_expansion.Goals.{then-i-lt6, else-i-lt6}

pub loop-i-init : goal.loop-i-init
loop-i-init c = (search rules, (refl, λ k h. absurd (omega arith)))

pub loop-i-preserved : goal.loop-i-preserved
loop-i-preserved c =
    let key = c.args.key in
    let w = c.loop-i.w in
    let i = c.loop-i.i in
    let long : length w ≡ 120 = c.loop-i.invariant.1.0 in
    let g = c.loop-i.invariant.1.1 in
    let l : i < length w = omega (arith, c.loop-i-test.true) in
    let more : (v : List ℕ) → c.if-i-lt6.w ≡ set w i v → word_of v ≡ key_word key i → (length c.if-i-lt6.w ≡ 120) × Expanded key c.if-i-lt6.w (i + 1) =
    λ v e h. rw e (length-set w i v ∙ long, expanded-more key w i v l g h) in (
      search rules,
      elim c.if-i-lt6.branch [
        | then-i-lt6 b ↦ more _ b.w-is (b.key_word.ensures ∙ word_first key i b.if-i-lt6.true)
        | else-i-lt6 b ↦ more _ b.w-is (b.next_word.ensures ∙ expanded-next key w i b.if-i-lt6.false g)
      ],
    )

pub returns : goal.returns
returns c = expanded-all _ _ _ c.loop-i-test.false c.loop-i.invariant.1.1
