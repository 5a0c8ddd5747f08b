-- `month_sheet::put_rows`: with each row its text is no longer left. Assumes nothing.
use Prim.Native.Nat.{ℕ, ◌+◌, ◌/◌, ◌%◌}
use mathlib.Core.Path.{ap, ◌∙◌}
use lib.ListN.{get_or}
use native.Mathlib.Omega.{arith}
use borrow.Author.Rules.{rules}
use Rattle.writing.proofs.Puts.{put_as}
use Rattle.writing.proofs.Left.{left-all, left_as, left-next, left-none}
use Rattle.month_sheet.specs.Sheet.{row_text, row_in, sums_in}
use Rattle.month_sheet.proofs.Texts.{texts-next, texts-none}
use Rattle.month_sheet.proofs.put_rows.Goals as goal

pub loop-row-init : goal.loop-row-init
loop-row-init c = (omega arith, left-all)

pub put_row-end-requires : goal.put_row-end-requires
put_row-end-requires c = let size = c.loop-row.invariant.1.size in (omega arith, omega arith)

pub loop-row-preserved : goal.loop-row-preserved
loop-row-preserved c =
    let row = c.loop-row.row in
    let put = c.put_row-end.ensures in
    let sums = c.row_at.ensures in
    let all = c.figure-all.ensures ∙ ap (λ (i : ℕ). get_or c.args.figures.now i 0) c.bits_at.ensures in (
      omega (arith, put.0),
      left-next (left_as (texts-next (row_in (sums_in c.args.figures.now)) row 64 (search rules)) c.loop-row.invariant.1)
          (put_as (λ k. row_text (row / 2 + 1) (row % 2 + 1) (sums.calls k) (sums.bits k) (sums.blocks k) (all k)) put.1),
    )

pub returns : goal.returns
returns c =
    (omega arith, left-none (left_as (texts-none (row_in (sums_in c.args.figures.now)) c.loop-row.row 64 (search rules)) c.loop-row.invariant.1))
