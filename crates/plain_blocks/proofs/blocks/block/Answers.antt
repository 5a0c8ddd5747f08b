-- `plain_blocks::blocks::block`: the cipher's block, by the callees' contracts. Assumes nothing.
use mathlib.Core.List.{◌++◌}
use mathlib.Core.Path.{ap, ◌∙◌}
use Rattle.rijndael.specs.Cipher.{cipher}
use Rattle.tea.specs.Keystream.{plaintext, block_of}
use Rattle.plain_blocks.proofs.blocks.block.Goals as goal

pub returns : goal.returns
unfolding block_of plaintext
returns c =
    let m = c.args.mode in
    c.cipher.ensures ∙ ap (cipher m.key) (c.plaintext.ensures ∙ ap (◌++◌ m.value) c.tag.ensures)
