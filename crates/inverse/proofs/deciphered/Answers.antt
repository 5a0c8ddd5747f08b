-- `inverse::deciphered`: by the callees' contracts. Assumes nothing.
use Rattle.inverse.specs.Decipher.{decipher}
use Rattle.inverse.proofs.deciphered.Goals as goal

pub returns : goal.returns
unfolding decipher
returns c = cc
