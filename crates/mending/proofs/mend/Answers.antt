-- `mending::mend`: a sheet whose names are wrong is refused with 25. Assumes nothing.
use mathlib.Core.Path.{sym, ◌∙◌}
use Rattle.mending.proofs.Answers.{out-names}
use Rattle.mending.proofs.mend.Goals as goal

pub returns-then-sheet_bad : goal.returns-then-sheet_bad
returns-then-sheet_bad c = out-names _ _ (sym c.sheet_bad.ensures ∙ c.if-sheet_bad.true)
