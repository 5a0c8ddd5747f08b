-- What the code answers, as text. Assumes nothing: these are definitions.
use Rattle.std.specs.Prelude.{List, ℕ, Result, Ok, Err}
use Rattle.refusals.specs.Refused.{number}
use Rattle.conversion_pairs.specs.Answers.{place_of}
use Rattle.conversion.specs.declared.Refused.{Refused}
use Rattle.conversion.specs.Conversion.{checked_as, passes}
use Rattle.conversion_sheet.specs.Report.{checked_text}

-- the number of pairs, or the refusal and its pair
abbrev pub report_text : Result ℕ Refused → List ℕ
report_text (Ok count) = checked_text passes count
report_text (Err refused) = checked_text (checked_as (number refused.refusal) (place_of refused.pair)) 0
