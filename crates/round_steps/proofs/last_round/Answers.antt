-- `round_steps::last_round`: by the steps' own contracts. Assumes nothing.
use Rattle.round_steps.proofs.last_round.Goals as goal

pub returns : goal.returns
returns c = cc
