-- `plain_rounds::mixed_byte`: by the callee's contract. Assumes nothing.
use Rattle.round_steps.specs.Steps.{mixed_byte}
use Rattle.plain_rijndael.proofs.steps.mixed_byte.Goals as goal

pub returns : goal.returns
unfolding mixed_byte
returns c = cc
