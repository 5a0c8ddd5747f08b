-- `keystream::xor_runs`: one run and then the other, by the callees' contracts. Assumes nothing.
use mathlib.Core.Path.{◌≡◌, refl, sym, ap, subst, ◌∙◌}
use Prim.Native.Nat.{◌+◌, ◌-◌, ◌/◌, ◌<◌, ◌≤◌, max}
use native.Mathlib.Omega.{arith}
use lib.ListN.{length}
use Rattle.span.specs.Span.{stream_bit}
use Rattle.block_counts.specs.Counts.{block_after}
use Rattle.span.proofs.Laws.{length-xored}
use Rattle.tea.specs.declared.mode.Mode.{Mode}
use Rattle.tea.specs.Mode.{mode_of}
use Rattle.tea.specs.Keystream.{block_of}
use Rattle.keystream.specs.Stream.{keystream}
use Rattle.keystream.specs.declared.Run.{Run}
use Rattle.keystream.specs.declared.Work.{Work}
use Rattle.keystream.specs.Work.{Held, Fits, through_run}
use Rattle.keystream.proofs.Turns.{run_at, made_at, buf_at, run-is, next-after, made_after, buf-after, fits-at, fits-long, early-at, both-made}
use Rattle.keystream.proofs.xor_runs.Goals as goal

pub loop-run-init : goal.loop-run-init
loop-run-init c =
    let e = c.begin-made.ensures.1 in (
      refl,
      refl,
      ap (λ (w : Work). w.schedules) e,
      ap (λ (w : Work). w.next) e,
      ap (λ (w : Work). w.blocks) e,
      subst (λ (w : Work). w.blocks ≤ w.next) (sym e) (omega arith),
      subst (λ (w : Work). Held (mode_of c.args.algorithm c.args.ck c.args.iv) w.next _) (sym e) (record { two = refl; last = λ h. absurd (omega arith) }),
    )

pub xor_run-made-requires : goal.xor_run-made-requires
xor_run-made-requires c =
    let loop = c.loop-run in
    let p = c.args.p in
    let q = c.args.q in
    let inv = loop.invariant in
    let run = run-is p q _ loop.run-index c.loop-run-test.true in (
      omega (arith, inv.0, c.requires.0),
      subst (Fits loop.buf) (sym run) (fits-long loop.buf c.args.buf.now (run_at p q loop.run-index) inv.0 (fits-at p q c.args.buf.now c.requires.1 c.requires.2 loop.run-index)),
      subst (λ (r : Run). 0 < r.n → loop.made.next ≤ r.skip / 256 + 1) (sym run) (λ h. rw inv.3 (early-at p q c.requires.3 loop.run-index c.loop-run-test.true h)),
      inv.5,
      subst (λ (m : Mode). Held m loop.made.next loop.kept) (sym c.mode_of-mode.ensures) inv.6,
    )

pub loop-run-preserved : goal.loop-run-preserved
loop-run-preserved c =
    let loop = c.loop-run in
    let inv = loop.invariant in
    let made = c.xor_run-made in
    let e = made.ensures in
    let p = c.args.p in
    let q = c.args.q in
    let mode = c.mode_of-mode.ensures in
    let run = run-is p q _ loop.run-index c.loop-run-test.true in
    let next = e.2 ∙ (λ i. block_after (inv.3 i) (run i).skip (run i).n) ∙ sym (next-after p q loop.run-index) in (
      ap length e.0 ∙ length-xored _ _ _ _ _ ∙ inv.0,
      e.0
          ∙ (λ i. through_run (inv.1 i) (stream_bit (block_of (mode i))) (run i))
          ∙ sym (buf-after p q (keystream c.args.algorithm c.args.ck c.args.iv) c.args.buf.now loop.run-index),
      e.1 ∙ inv.2,
      next,
      e.3 ∙ (λ i. inv.4 i + (next i - max (inv.3 i) ((run i).skip / 256))) ∙ sym (made_after p q loop.run-index),
      e.4,
      subst (λ (m : Mode). Held m made.result.next made.new.kept) mode e.5,
    )

pub returns : goal.returns
returns c =
    let inv = c.loop-run.invariant in
    let p = c.args.p in
    let q = c.args.q in
    let all : c.loop-run.run-index ≡ 2 = omega arith in (
      inv.1 ∙ ap (buf_at p q (keystream c.args.algorithm c.args.ck c.args.iv) c.args.buf.now) all,
      inv.2,
      inv.4 ∙ ap (made_at p q) all ∙ both-made p q c.requires.3,
    )
