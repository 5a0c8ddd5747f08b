-- `mended_text::put_lowered`: what is to be left stays the same with each byte. Assumes nothing.
use mathlib.Core.Path.{◌≡◌, refl, sym, ap, ◌∙◌}
use Prim.Native.Nat.{ℕ, ◌≤◌, ◌+◌}
use native.Mathlib.Omega.{arith}
use lib.ListN.{length, drop, set, length-set}
use lib.Seq.{sets}
use Rattle.writing.proofs.Puts.{put-more, put_all}
use Rattle.mended_text.specs.Text.{lowered}
use Rattle.mended_text.proofs.Laws.{length-lowered, lowered-at}
use Rattle.mended_text.proofs.put_lowered.Goals as goal

pub loop-i-init : goal.loop-i-init
loop-i-init c =
    let args = c.args in
    let z : args.at ≡ args.at + 0 = omega arith in
    (refl, ap (λ (k : ℕ). sets args.buffer.now k (lowered args.bytes.now)) z)

pub overflow_add-buffer : goal.overflow_add-buffer
overflow_add-buffer c =
    record { fits = omega (arith, c.requires.fits, length-lowered c.args.bytes.now, c.loop-i.invariant.0) }

pub bounds-buffer-at : goal.bounds-buffer-at
bounds-buffer-at c =
    omega (arith, c.requires.fits, length-lowered c.args.bytes.now, c.loop-i.invariant.0)

pub loop-i-preserved : goal.loop-i-preserved
loop-i-preserved c =
    let args = c.args in
    let bytes = args.bytes.now in
    let i = c.loop-i.i in (
      simp length-set c.loop-i.invariant.0,
      c.loop-i.invariant.1
          ∙ put-more c.loop-i.buffer args.at (lowered bytes) i (omega (arith, length-lowered bytes))
          ∙ ap (λ (b : ℕ). sets (set c.loop-i.buffer (args.at + i) b) (args.at + (i + 1)) (drop (i + 1) (lowered bytes)))
          (lowered-at bytes i c.loop-i-test.true ∙ sym c.lower_hex.ensures),
    )

pub overflow_add-result : goal.overflow_add-result
overflow_add-result c =
    record { fits = omega (arith, c.requires.fits, length-lowered c.args.bytes.now) }

pub returns : goal.returns
returns c =
    let bytes = c.args.bytes.now in
    let all : length (lowered bytes) ≤ c.loop-i.i = omega (arith, length-lowered bytes) in
    record {
      holds = sym (c.loop-i.invariant.1 ∙ put_all _ _ _ _ all);
      ends = omega (arith, length-lowered bytes);
    }
