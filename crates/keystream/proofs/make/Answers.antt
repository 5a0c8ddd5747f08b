-- `keystream::make`: the cipher's block, by the callees' contracts. Assumes nothing.
use mathlib.Core.Path.{refl, ap, ◌∙◌}
use mathlib.Core.List.{List}
use Prim.Native.Nat.{ℕ, ◌%◌}
use lib.ListN.{set}
use Rattle.rijndael.specs.Cipher.{cipher, encrypted, to_block, to_state}
use Rattle.tea.specs.Keystream.{block_of}
use Rattle.keystream.proofs.make.Goals as goal

pub returns : goal.returns
unfolding block_of cipher
returns c =
    let a = c.args in
    let block = c.cipher_block.ensures ∙ (λ i. to_block (encrypted (c.args.engine.now.keyed i) (to_state (c.plaintext.ensures i)))) in
    (refl, ap (λ (b : List ℕ). set a.kept.now (a.j % 2) b) block)
