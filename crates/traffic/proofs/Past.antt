-- Bits past the end of a list. Assumes nothing.
use Rattle.laws.proofs.Bits.{at-past}

pub ruleset past_steps = (at-past)
