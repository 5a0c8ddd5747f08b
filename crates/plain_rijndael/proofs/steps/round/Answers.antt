-- `plain_rounds::round`: by the steps' own contracts. Assumes nothing.
use Rattle.plain_rijndael.proofs.steps.round.Goals as goal

pub returns : goal.returns
returns c = cc
