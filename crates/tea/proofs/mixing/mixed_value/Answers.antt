-- `tea::mixing::mixed_value`: the last 24 of the bytes. Assumes nothing.
use mathlib.Core.Path.{◌≡◌, ◌∙◌}
use Prim.Native.Nat.{◌+◌}
use native.Mathlib.Nat.{zero-add}
use native.Mathlib.Omega.{arith}
use borrow.Author.Rules.{rules}
use lib.ListN.{length}
use Rattle.std.proofs.lemmas.List.Edits.{length-between, get_or-between}
use Rattle.laws.proofs.Lists.{tabulate-ext, tabulate-at}
use Rattle.tea.specs.Mixing.{expanded_byte, mixed_value}
use Rattle.tea.proofs.mixing.mixed_value.Goals as goal

pub returns : goal.returns
unfolding mixed_value
returns c =
    let b = c.mixed_bytes-b.result in
    let long : length b ≡ 44 = search rules in
    c.copy_from_slice.ensures.after
    ∙ tabulate-ext (λ k. expanded_byte c.args.iv (20 + k)) 0 24 0 _ (length-between b 20 44 (omega arith))
    (λ k h. rw zero-add (get_or-between b 20 44 k 0 (omega arith) ∙ tabulate-at (expanded_byte c.args.iv) 0 c.mixed_bytes-b.ensures (20 + k) (omega arith)))
