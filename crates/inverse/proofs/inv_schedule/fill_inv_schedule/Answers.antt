-- `inverse::inv_schedule::fill_inv_schedule`: the cipher's schedule, and then its round keys 1 to 13. Assumes nothing.
use mathlib.Core.Path.{◌∙◌}
use Rattle.inv_parts.proofs.MixedBack.{inv-words}
use Rattle.inverse.proofs.inv_schedule.fill_inv_schedule.Goals as goal

pub returns : goal.returns
returns c = c.mix_schedule_back.ensures ∙ inv-words _ _ c.fill_schedule.ensures
