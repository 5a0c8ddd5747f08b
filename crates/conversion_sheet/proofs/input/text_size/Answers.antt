-- `input::text_size`: no empty line stands among the bytes passed. Assumes nothing.
use Rattle.std.proofs.Common.{rules, arith, ◌≡◌, length, sym, ◌∙◌, ⊎_elim, ne_eqb}
use Rattle.conversion_sheet.proofs.Inputs.{empty-here, empty-later, empty-end}
use Rattle.conversion_sheet.proofs.input.text_size.Goals as goal

pub returns-then-ends : goal.returns-then-ends
returns-then-ends c =
    let loop = c.loop-i in
    (sym (loop.invariant ∙ empty-here _ loop.i _ (search rules) c.if-starts.true c.if-ends.true), omega arith)

pub loop-i-preserved : goal.loop-i-preserved
loop-i-preserved c =
    let loop = c.loop-i in
    loop.invariant ∙ empty-later _ loop.i _ (search rules) (⊎_elim (λ w. rw (w.0, ne_eqb _ 10 w.1)) (λ w. rw w) c.else-starts.either)

pub returns : goal.returns
returns c =
    let loop = c.loop-i in
    let all : length c.args.s.now ≡ loop.i = omega arith in
    (all ∙ sym (loop.invariant ∙ empty-end _ loop.i _ (search rules)), omega arith)
