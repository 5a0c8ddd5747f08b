-- `plain_rounds::final_round`: by the steps' own contracts. Assumes nothing.
use Rattle.plain_rijndael.proofs.steps.final_round.Goals as goal

pub returns : goal.returns
returns c = cc
