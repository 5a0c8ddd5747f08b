-- `writing::put_bytes`: what is to be left stays the same with each byte. Assumes nothing.
use Rattle.std.proofs.Common.{◌≡◌, ◌∙◌, ◌+◌, sym, ap, ℕ, arith}
use lib.Seq.{sets}
use Rattle.writing.proofs.Puts.{put-more, put_all}
use Rattle.writing.proofs.put_bytes.Goals as goal

pub loop-b-init : goal.loop-b-init
loop-b-init c =
    let z : c.args.at ≡ c.args.at + 0 = omega arith in
    (omega arith, ap (λ (k : ℕ). sets c.args.buffer.now k c.args.bytes.now) z)

pub loop-b-preserved : goal.loop-b-preserved
loop-b-preserved c = (omega arith, rw c.loop-b.invariant.0 (c.loop-b.invariant.1 ∙ put-more _ _ _ _ c.loop-b-test.true))

pub returns : goal.returns
returns c = record { holds = sym (c.loop-b.invariant.1 ∙ put_all _ _ _ _ c.loop-b-test.false); ends = omega arith }
