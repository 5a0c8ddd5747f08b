-- `conversion_sheet::report_on`: at the front of zeros. Assumes nothing.
use Rattle.conversion_sheet.proofs.Texts.{put_front}
use Rattle.conversion_sheet.proofs.report_on.Goals as goal

pub returns : goal.returns
returns c = put_front _ c.put_report-length.ensures.0 c.put_report-length.ensures.1
