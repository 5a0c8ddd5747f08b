-- `call_log::feed`: with each byte it is no longer left. Assumes nothing.
use mathlib.Core.Path.{◌≡◌}
use lib.ListN.{length, drop}
use Rattle.call_log.specs.Fed.{fed_to, fed}
use Rattle.call_log.proofs.feed.Given as goal

abbrev pub invariant-loop-b : goal.invariant-loop-b
invariant-loop-b l =
    (length l.figures ≡ length l.initial.figures) × (fed (fed_to l.initial.now l.initial.figures) l.block ≡ fed (fed_to l.now l.figures) (drop l.b-index l.block))
