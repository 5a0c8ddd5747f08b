-- Bits that were cleared and then xored are the keystream's. Assumes nothing.
use Rattle.span.proofs.Laws.{xored-cleared}

pub ruleset cleared_steps = (xored-cleared)
