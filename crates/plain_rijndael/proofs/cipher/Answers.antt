-- `plain_rijndael::cipher`: by the callees' contracts. Assumes nothing.
use mathlib.Core.Path.{◌∙◌}
use Rattle.rijndael.specs.Cipher.{cipher, encrypted, to_block}
use Rattle.plain_rijndael.proofs.cipher.Goals as goal

pub returns : goal.returns
unfolding cipher
returns c =
    c.to_block.ensures
    ∙ (λ i. to_block ((c.encrypt.ensures ∙ (λ j. encrypted (c.key_expansion.ensures j) (c.to_state.ensures j))) i))
