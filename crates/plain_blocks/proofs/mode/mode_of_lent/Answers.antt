-- `plain_blocks::mode::mode_of_lent`: by the callees' contracts. Assumes nothing.
use Rattle.tea.specs.Mode.{mode_of}
use Rattle.plain_blocks.proofs.mode.mode_of_lent.Goals as goal

pub returns : goal.returns
unfolding mode_of
returns c = cc
