-- `tea::mixing::first_bytes`: the initial value's bytes stand in front, `Filled` to 10. Assumes nothing.
use mathlib.Core.Path.{◌≡◌, sym, ◌∙◌}
use native.Mathlib.Omega.{arith}
use borrow.Author.Rules.{rules}
use lib.Dec.{lit≤}
use lib.ListN.{length, length-append, get_or-append}
use Rattle.tea.proofs.MixingRule.{byte-first}
use Rattle.tea.proofs.mixing.first_bytes.Goals as goal

pub returns : goal.returns
returns c =
    let iv = c.args.iv in
    let ten : length iv ≡ 10 = search rules in
    rw c.copy_from_slice.ensures.after (record {
      upto = lit≤ tt;
      size = simp length-append (omega arith);
      entries = λ k h. get_or-append iv _ 0 k (omega arith) ∙ sym (byte-first iv ten k h);
    })
