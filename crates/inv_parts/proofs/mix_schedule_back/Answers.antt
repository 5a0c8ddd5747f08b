-- `inv_parts::mix_schedule_back`: `Filled` to i, and from i on the words are as they were. Assumes nothing.
use mathlib.Core.Path.{refl, ap, ◌∙◌}
use Prim.Native.Nat.{◌-◌, ◌<◌, ◌≤◌}
use native.Mathlib.Omega.{arith}
use borrow.Author.Rules.{rules}
use lib.Dec.{lit≤}
use lib.Seq.{get_or-set_other}
use Rattle.laws.proofs.Lists.{fill_more}
use Rattle.inv_parts.specs.Schedule.{inv_mixed_word}
use Rattle.inv_parts.proofs.MixedBack.{first-stays, between-mixed, all-mixed}
use Rattle.inv_parts.proofs.mix_schedule_back.Goals as goal

pub loop-i-init : goal.loop-i-init
loop-i-init c =
    (search rules, (record { upto = lit≤ tt; size = search rules; entries = λ k h. first-stays k _ h }, λ k h. refl))

pub loop-i-preserved : goal.loop-i-preserved
loop-i-preserved c =
    let i = c.loop-i.i in
    let g = c.loop-i.invariant in
    let h : i < 112 = c.loop-i-test.true in (
      search rules,
      (
        fill_more g.1.0 (search rules) _ (c.inv_mixed_word.ensures ∙ ap inv_mixed_word (g.1.1 i (omega arith)) ∙ between-mixed i _ g.0.0 h),
        λ k l. get_or-set_other c.loop-i.w i k c.inv_mixed_word.result 0 (λ q. omega arith) ∙ g.1.1 k (omega arith),
      ),
    )

pub returns : goal.returns
returns c =
    let g = c.loop-i.invariant in
    all-mixed c.args.w.now _ _ (search rules) g.1.0 g.1.1
