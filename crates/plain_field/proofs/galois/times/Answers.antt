-- `plain_field::galois::times`: the sum so far, and the terms to come, are the product. Assumes nothing.
use mathlib.Core.Path.{◌≡◌, sym, ap, ◌∙◌}
use Prim.Native.Nat.{ℕ, ◌+◌, ◌-◌, ◌/◌, ◌<◌}
use native.Mathlib.Omega.{arith}
use borrow.Author.Rules.{rules}
use lib.Bits.{bit_xor, xor_zero_l, xor_zero_r}
use Rattle.gf256.specs.Field.{sum_over, times}
use Rattle.plain_field.proofs.Products.{sum_more}
use Rattle.plain_field.proofs.galois.times.Goals as goal

pub loop-init : goal.loop-init
unfolding times
loop-init c = (search rules, xor_zero_l _)

pub loop-preserved : goal.loop-preserved
loop-preserved c =
    let n = c.loop.counter in
    let h : n < 8 = c.loop-test.true in (
      search rules,
      (λ i. bit_xor (bit_xor c.loop.sum (c.term-sum.ensures i)) (sum_over (8 - (n + 1)) (c.loop.rest / 2) (c.xtime-shifted.ensures i)))
          ∙ sym (sum_more n c.loop.sum c.loop.rest c.loop.shifted h)
          ∙ c.loop.invariant.1,
    )

pub returns : goal.returns
returns c =
    let at = c.loop in
    let e : 8 - at.counter ≡ 0 = omega arith in
    sym (xor_zero_r _) ∙ sym (ap (λ (m : ℕ). bit_xor at.sum (sum_over m at.rest at.shifted)) e) ∙ at.invariant.1
