-- `plain_schedule::next_word`: by the callees' contracts. Assumes nothing.
use mathlib.Core.List.{[]}
use mathlib.Core.Path.{ap, ◌∙◌}
use Prim.Native.Nat.{◌-◌}
use lib.Bits.{bit_xor}
use lib.ListN.{get_or}
use Rattle.plain_schedule.specs.Bytes.{word_of}
use Rattle.plain_schedule.proofs.next_word.Goals as goal

pub returns : goal.returns
returns c =
    let a = c.args in
    c.sum.ensures ∙ ap (bit_xor (word_of (get_or a.w (a.i - 6) []))) c.carried.ensures
