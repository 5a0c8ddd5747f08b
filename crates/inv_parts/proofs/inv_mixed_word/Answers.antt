-- `inv_parts::inv_mixed_word`: by the callees' contracts. Assumes nothing.
use Rattle.inv_parts.specs.Schedule.{inv_mixed_word}
use Rattle.inv_parts.proofs.inv_mixed_word.Goals as goal

pub returns : goal.returns
unfolding inv_mixed_word
returns c = cc
