-- What is printed lies within the report. Assumes nothing.
use Rattle.std.proofs.Common.{sym, length-take-le}
use Rattle.conversion_sheet.proofs.Texts.{report-within}
use Rattle.converted.proofs.main.Goals as goal

pub slice_bounds-write_all-end : goal.slice_bounds-write_all-end
slice_bounds-write_all-end c = sym (length-take-le _ _ (report-within _ c.report_on-report.ensures))
