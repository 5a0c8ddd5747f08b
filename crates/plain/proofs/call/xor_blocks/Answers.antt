-- `plain::call::xor_blocks`: a block's bits follow those of the blocks before it. Assumes nothing.
use mathlib.Core.Path.{◌≡◌, refl, sym, ap, ◌∙◌}
use Prim.Native.Nat.{ℕ, ◌+◌, ◌-◌, ◌*◌, ◌/◌, ◌%◌, ◌≤◌}
use native.Mathlib.Omega.{arith}
use lib.ListN.{length}
use Rattle.std.specs.Prelude.{min, max}
use Rattle.laws.specs.Bits.{bit_at}
use Rattle.span.specs.Span.{xored, stream_bit}
use Rattle.block_counts.proofs.Blocks.{used-some}
use Rattle.span.proofs.Laws.{xored-none, length-xored}
use Rattle.span.proofs.Stream.{xored-stretch}
use Rattle.tea.specs.Keystream.{block_of}
use Rattle.plain.proofs.call.xor_blocks.Goals as goal

pub loop-r-init : goal.loop-r-init
loop-r-init c =
    let a = c.args in
    let none : 0 ≡ min (a.skip + a.n) (max a.skip (256 * (a.skip / 256))) - a.skip = omega arith in
    (refl, sym (xored-none _ _ _ _ (λ q. omega (arith, c.slice_known-1.given q))) ∙ ap (xored a.buf.now (stream_bit (block_of a.mode)) 0 a.skip) none)

pub loop-r-preserved : goal.loop-r-preserved
loop-r-preserved c =
    let a = c.args in
    let r = c.loop-r.r in
    let from = c.max-from.result in
    let some = c.min-to.result - from in
    let done = min (a.skip + a.n) (max a.skip (256 * r)) - a.skip in
    let at : a.skip + done ≡ from = omega (arith, c.div_ceil-after.ensures) in
    let block : r ≡ (a.skip + done) / 256 = omega (arith, c.div_ceil-after.ensures) in
    let place : from - a.skip ≡ 0 + done = omega arith in
    let bit : from % 256 ≡ (a.skip + done) % 256 = ap (λ (x : ℕ). x % 256) (sym at) in
    let fits : (a.skip + done) % 256 + some ≤ 256 = omega (arith, c.div_ceil-after.ensures) in
    let next : done + some ≡ min (a.skip + a.n) (max a.skip (256 * (r + 1))) - a.skip = omega (arith, c.div_ceil-after.ensures) in (
      ap length c.xor_block.ensures ∙ length-xored _ _ _ _ _ ∙ c.loop-r.invariant.0,
      c.xor_block.ensures
          ∙ (λ i. xored (c.loop-r.invariant.1 i) (bit_at ((c.block.ensures ∙ ap (block_of a.mode) block) i)) (place i) (bit i) some)
          ∙ xored-stretch (block_of a.mode) a.buf.now 0 a.skip done some fits
          ∙ ap (xored a.buf.now (stream_bit (block_of a.mode)) 0 a.skip) next,
    )

pub returns : goal.returns
returns c =
    let a = c.args in
    let all : min (a.skip + a.n) (max a.skip (256 * c.loop-r.r)) - a.skip ≡ a.n = omega (arith, c.div_ceil-after.ensures) in
    let used = used-some a.skip a.n (λ e. omega arith) in
    (rw all at c.loop-r.invariant.1, omega (arith, used, c.div_ceil-after.ensures))
