-- `rounds::mixed::mixed_word`: the four words of the bytes, `column`. Assumes nothing.
use borrow.Author.Rules.{rules}
use lib.Bits.{bit_xor}
use Rattle.rounds.proofs.Folded.{column}
use Rattle.rounds.proofs.mixed.mixed_word.Goals as goal

pub returns : goal.returns
returns c =
    let a = c.args in
    column a.a a.b a.c a.d (search rules) (search rules) (search rules) (search rules) _
    (λ i. bit_xor (bit_xor (bit_xor (c.in_row.ensures i) (c.in_row-2.ensures i)) (c.in_row-3.ensures i)) (c.in_row-4.ensures i))
