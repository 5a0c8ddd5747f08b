-- `tea::mode::mode_of`: by the callees' contracts. Assumes nothing.
use Rattle.tea.specs.Mode.{mode_of}
use Rattle.tea.proofs.mode.mode_of.Goals as goal

pub returns : goal.returns
unfolding mode_of
returns c = cc
