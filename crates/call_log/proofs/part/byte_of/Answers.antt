-- `part::byte_of`: a byte of the name, or 0 behind it. Assumes nothing.
use mathlib.Core.Path.{sym}
use lib.ListN.{get_or-eq_default}
use Rattle.call_log.proofs.part.byte_of.Goals as goal

pub returns : goal.returns
returns c = sym (get_or-eq_default c.args.name.now 0 c.if-i-name.false)
