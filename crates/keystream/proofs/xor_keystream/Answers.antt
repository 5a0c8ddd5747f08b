-- `keystream::xor_keystream`: a run, and then a run of no bits. Assumes nothing.
use mathlib.Core.Path.{◌∙◌}
use native.Mathlib.Omega.{arith}
use Rattle.span.proofs.Laws.{xored-none, xored-bytes}
use Rattle.span.proofs.Stream.{stream-lt}
use Rattle.block_counts.proofs.Blocks.{both-none}
use Rattle.keystream.specs.Stream.{keystream}
use Rattle.keystream.proofs.xor_keystream.Goals as goal

pub xor_runs-requires : goal.xor_runs-requires
xor_runs-requires c =
    let pre = c.requires in
    (pre.0, record { inside = pre.1; streamed = pre.2 }, record { inside = omega arith; streamed = omega arith }, λ h. absurd (omega arith))

pub returns : goal.returns
returns c =
    let a = c.args in
    let k = keystream a.algorithm a.ck a.iv in (
      c.xor_runs.ensures.0 ∙ xored-none _ k 0 0 (xored-bytes k (stream-lt _) a.buf.now a.start a.skip a.n),
      c.xor_runs.ensures.1,
      c.xor_runs.ensures.2 ∙ both-none a.skip a.n 0,
    )
