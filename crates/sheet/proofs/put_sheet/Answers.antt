-- `sheet::put_sheet`: what is loaded is written. Assumes nothing.
use mathlib.Core.Path.{ap}
use Rattle.writing.proofs.Puts.{put_as}
use Rattle.sheet.specs.Sheet.{loaded_text, listing}
use Rattle.sheet.proofs.put_sheet.Goals as goal

pub returns : goal.returns
unfolding listing
returns c = (c.put_loaded.ensures.0, put_as (ap loaded_text c.load_all.ensures) c.put_loaded.ensures.1)
