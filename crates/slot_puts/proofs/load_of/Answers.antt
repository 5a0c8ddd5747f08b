-- `slot_puts::load_of`: what was not refused can be stored. Assumes nothing.
use mathlib.Core.Path.{sym, ap, ◌∙◌}
use Rattle.refusals.specs.Refused.{number_of}
use Rattle.slot_calls.proofs.Passed.{load-passed-of}
use Rattle.slot_puts.proofs.load_of.Goals as goal

pub stored-requires : goal.stored-requires
stored-requires c = (load-passed-of _ _ _ _ (sym c.load_refusal.ensures ∙ ap number_of c.in_ok-load_refusal.was)).ranges
