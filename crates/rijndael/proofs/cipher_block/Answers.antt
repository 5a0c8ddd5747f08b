-- `rijndael::cipher_block`: by the callees' contracts. Assumes nothing.
use Rattle.rijndael.proofs.cipher_block.Goals as goal

pub returns : goal.returns
returns c = cc
