-- `ciphering::xor::cipher_from`: what was done to the bits of the part that was lent was done to the bits of the buffer. Assumes nothing.
use mathlib.Core.Path.{◌≡◌, ap, ◌∙◌}
use Prim.Native.Nat.{ℕ, ◌+◌, ◌*◌, ◌/◌, ◌%◌}
use native.Mathlib.Omega.{arith}
use Rattle.span.specs.Span.{xored}
use Rattle.span.proofs.Tail.{tail-back}
use Rattle.span.proofs.Stream.{stream-lt}
use Rattle.keystream.specs.Stream.{keystream}
use Rattle.ciphering.proofs.xor.cipher_from.Goals as goal

pub returns : goal.returns
returns c =
    let a = c.args in
    let p = a.run in
    let k = keystream a.algorithm a.ck a.iv in
    let start : 8 * (p.start / 8) + p.start % 8 ≡ p.start = omega arith in
    let made = c.xor_keystream.ensures in (
      tail-back a.buf.now c.xor_keystream.new.buf k (p.start / 8) (p.start % 8) p.skip p.n (stream-lt _) (omega arith)
          made.0 (λ q. omega (arith, c.slice_known-2-1.given q))
          ∙ ap (λ (m : ℕ). xored a.buf.now k m p.skip p.n) start,
      made.1,
      made.2,
    )
