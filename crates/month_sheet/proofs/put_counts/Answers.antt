-- `month_sheet::put_counts`: with each code its text is no longer left. Assumes nothing.
use Prim.Native.Nat.{ℕ, ◌+◌}
use mathlib.Core.Path.{ap, ◌∙◌}
use native.Mathlib.Omega.{arith}
use borrow.Author.Rules.{rules}
use lib.ListN.{get_or}
use Rattle.writing.proofs.Puts.{put_as}
use Rattle.writing.proofs.Left.{left-all, left_as, left-next, left-none}
use Rattle.month_sheet.specs.Sheet.{count_text}
use Rattle.month_sheet.proofs.Lengths.{count-short}
use Rattle.month_sheet.proofs.Texts.{texts-next, texts-none}
use Rattle.month_sheet.proofs.put_counts.Goals as goal

pub loop-code-init : goal.loop-code-init
loop-code-init c = (omega arith, left-all)

pub put_pair-end-requires : goal.put_pair-end-requires
unfolding count_text
put_pair-end-requires c =
    let size = c.loop-code.invariant.1.size in
    record { fits = omega (arith, count-short c.loop-code.code c.figure-count.result (search rules) (search rules)) }

pub loop-code-preserved : goal.loop-code-preserved
unfolding count_text
loop-code-preserved c =
    let figures = c.args.figures.now in
    let code = c.loop-code.code in
    let put = c.put_pair-end.ensures in
    let count = c.figure-count.ensures ∙ ap (λ (i : ℕ). get_or figures i 0) c.count_at.ensures in (
      omega (arith, put.ends, count-short code c.figure-count.result (search rules) (search rules)),
      left-next (left_as (texts-next (λ code. count_text code (get_or figures (195 + code) 0)) code 28 (search rules)) c.loop-code.invariant.1)
          (put_as (λ k. count_text code (count k)) put),
    )

pub returns : goal.returns
returns c =
    let figures = c.args.figures.now in
    (omega arith, left-none (left_as (texts-none (λ code. count_text code (get_or figures (195 + code) 0)) c.loop-code.code 28 (search rules)) c.loop-code.invariant.1))
