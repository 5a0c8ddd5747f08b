-- The part of s from the first byte of the run on is lent. What was done to its bits was done to the bits of s. Assumes nothing.
use mathlib.Core.Path.{◌≡◌, ap, ◌∙◌}
use Prim.Native.Nat.{ℕ, ◌+◌, ◌*◌, ◌/◌, ◌%◌}
use native.Mathlib.Omega.{arith}
use Rattle.laws.specs.Bits.{bit_at}
use Rattle.laws.proofs.Bits.{at_lt}
use Rattle.span.specs.Span.{xored}
use Rattle.span.proofs.Tail.{tail-back}
use Rattle.span.proofs.xor_block.Goals as goal

pub returns : goal.returns
returns c =
    let a = c.args in
    let start : 8 * (a.at / 8) + a.at % 8 ≡ a.at = omega arith in
    tail-back a.s.now c.xor_part.new.s (bit_at a.k) (a.at / 8) (a.at % 8) a.from a.n (at_lt a.k) (omega arith)
    c.xor_part.ensures (λ q. omega (arith, c.slice_known-2-1.given q))
    ∙ ap (λ (m : ℕ). xored a.s.now (bit_at a.k) m a.from a.n) start
