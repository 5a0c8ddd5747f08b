-- What the code answers, as the definitions have it. Assumes nothing: these are definitions.
use Rattle.std.specs.Prelude.{⊤, Result, Ok, Err}
use Rattle.refusals.specs.Refused.{number}
use Rattle.conversion_pairs.specs.Answers.{place_of}
use Rattle.conversion.specs.declared.Refused.{Refused}
use Rattle.conversion.specs.Conversion.{Checked, checked_as, passes}

abbrev pub checked_of : Result ⊤ Refused → Checked
checked_of (Ok _) = passes
checked_of (Err refused) = checked_as (number refused.refusal) (place_of refused.pair)
