-- `inverse::decipher_block`: by the callees' contracts. Assumes nothing.
use Rattle.inverse.proofs.decipher_block.Goals as goal

pub returns : goal.returns
returns c = cc
