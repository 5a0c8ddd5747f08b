-- `plain_field::galois::inverse`: the product so far, and the squares to come, are the inverse. Assumes nothing.
use mathlib.Core.Path.{◌≡◌, refl, sym, ap, ◌∙◌}
use Prim.Native.Nat.{ℕ, ◌+◌, ◌-◌, ◌<◌}
use native.Mathlib.Omega.{arith}
use borrow.Author.Rules.{rules}
use Rattle.gf256.specs.Field.{times, times_squares, inverse}
use Rattle.plain_field.proofs.Products.{square-more}
use Rattle.plain_field.proofs.galois.inverse.Goals as goal

pub loop-init : goal.loop-init
unfolding inverse
loop-init c = (search rules, refl)

pub loop-preserved : goal.loop-preserved
loop-preserved c =
    let n = c.loop.counter in
    let h : n < 7 = c.loop-test.true in
    let p = c.times-power.ensures in (
      search rules,
      (λ i. times_squares (7 - (n + 1)) (p i) ((c.times-product.ensures ∙ ap (times c.loop.product) p) i))
          ∙ sym (square-more n c.loop.power c.loop.product h)
          ∙ c.loop.invariant.1,
    )

pub returns : goal.returns
returns c =
    let at = c.loop in
    let e : 7 - at.counter ≡ 0 = omega arith in
    sym (ap (λ (m : ℕ). times_squares m at.power at.product) e) ∙ at.invariant.1
