-- `plain_mixing::byte`: the first ten bytes as they come, and then by the rule. Assumes nothing.
use mathlib.Core.Path.{◌≡◌, sym, ap, ◌∙◌}
use Prim.Native.Nat.{◌+◌, ◌-◌}
use native.Mathlib.Omega.{arith}
use lib.Bits.{bit_xor}
use borrow.Author.Rules.{rules}
use Rattle.tea.specs.Mixing.{mixed, expanded_byte}
use Rattle.tea.proofs.MixingRule.{byte-first, byte-later}
use Rattle.plain_mixing.proofs.+byte_product.Goals as goal

pub byte-returns-then-i-lt10 : goal.byte-returns-then-i-lt10
byte-returns-then-i-lt10 t c = sym (byte-first c.args.iv (search rules) c.args.i c.if-i-lt10.true)

pub byte-returns : goal.byte-returns
byte-returns t c =
    let a = c.args in
    let g = c.if-i-lt10.false in
    let p : a.i - 10 + 10 ≡ a.i = omega (arith, g) in
    let q : a.i - 10 + 1 ≡ a.i - 9 = omega (arith, g) in
    let r : a.i - 10 + 9 ≡ a.i - 1 = omega (arith, g) in
    (λ i. bit_xor (bit_xor (c.byte.ensures i) (c.byte-2.ensures i)) (c.product.ensures i))
    ∙ sym (ap (expanded_byte a.iv) (sym p) ∙ byte-later a.iv (search rules) (a.i - 10)
    ∙ (λ i. mixed (expanded_byte a.iv (a.i - 10)) (expanded_byte a.iv (q i)) (expanded_byte a.iv (r i))))
