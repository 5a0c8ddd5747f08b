-- `inverse::inv_round`: by the steps' own contracts. Assumes nothing.
use Rattle.inverse.proofs.inv_round.Goals as goal

pub returns : goal.returns
returns c = cc
