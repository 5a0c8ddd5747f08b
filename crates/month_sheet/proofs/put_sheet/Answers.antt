-- `month_sheet::put_sheet`: one part after the other. Assumes nothing.
use native.Mathlib.Omega.{arith}
use Rattle.writing.proofs.Puts.{put_as, put_then}
use Rattle.month_sheet.specs.Sheet.{total_text, sheet_text}
use Rattle.month_sheet.proofs.put_sheet.Goals as goal

pub returns : goal.returns
unfolding sheet_text
returns c =
    let put = c.put_total.ensures in (
      omega (arith, put.0, c.put_counts-total.ensures.0, c.put_rows-counts.ensures.0),
      put_then c.put_rows-counts.ensures.1
          (put_then c.put_counts-total.ensures.1
          (put_as (λ k. total_text (c.figure.ensures k) (c.row_at.ensures.calls k) (c.row_at.ensures.bits k) (c.row_at.ensures.blocks k)) put.1)),
    )
