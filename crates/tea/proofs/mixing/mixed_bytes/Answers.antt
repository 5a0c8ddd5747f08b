-- `tea::mixing::mixed_bytes`: the bytes below i are right, whatever initial value the first ten are of; `last` is byte i - 1, and `two` the sum of bytes i - 10 and i - 9. Assumes nothing.
use mathlib.Core.Path.{◌≡◌, ◌∙◌}
use Prim.Native.Nat.{◌<◌}
use native.Mathlib.Omega.{arith}
use borrow.Author.Rules.{rules}
use lib.Bits.{bit_xor}
use lib.Dec.{lit<}
use lib.ListN.{length, set, length-set}
use Rattle.laws.proofs.Lists.{fill-all}
use Rattle.tea.proofs.MixingRule.{byte-same, byte_more, last-is, two-are}
use Rattle.tea.proofs.mixing.mixed_bytes.Goals as goal

pub loop-i-init : goal.loop-i-init
loop-i-init c =
    let iv = c.args.iv in
    let ten : length iv ≡ 10 = search rules in
    let g = c.first_bytes-b.ensures in
    let b = c.first_bytes-b.result in
    (search rules, (g.size, (byte-same iv ten b g 9 (lit< tt), ((λ j. bit_xor (byte-same iv ten b g 0 (lit< tt) j) (byte-same iv ten b g 1 (lit< tt) j)), λ iv ten g. g))))

pub loop-i-preserved : goal.loop-i-preserved
loop-i-preserved c =
    let b = c.loop-i.b in
    let i = c.loop-i.i in
    let inv = c.loop-i.invariant in
    let long : length b ≡ 44 = inv.1.0 in
    let lt : i < 44 = c.loop-i-test.true in
    let x = bit_xor c.loop-i.two c.times_d7.result in (
      search rules,
      (
        length-set b i x ∙ long,
        (
          last-is b i x (omega arith),
          (
            two-are (set b i x) i inv.0.0,
            λ iv ten g. byte_more iv ten b i c.loop-i.two c.loop-i.last c.times_d7.result (inv.1.1.1.1 iv ten g) inv.0.0 lt inv.1.1.1.0 inv.1.1.0 c.times_d7.ensures,
          ),
        ),
      ),
    )

pub returns : goal.returns
returns c =
    let iv = c.args.iv in
    let ten : length iv ≡ 10 = search rules in
    fill-all (c.loop-i.invariant.1.1.1.1 iv ten c.first_bytes-b.ensures) c.loop-i-test.false
