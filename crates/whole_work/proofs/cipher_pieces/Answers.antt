-- `whole_work::cipher_pieces`: nothing where there is no piece, and else the two runs. Assumes nothing.
use mathlib.Core.Path.{sym, ap, subst, ◌∙◌}
use native.Mathlib.Omega.{arith}
use borrow.Author.Tests.{ne_eqb}
use Rattle.ciphering.specs.Span.{schedules_for}
use Rattle.keystream.specs.Stream.{keystream}
use Rattle.keystream.specs.declared.Run.{Run}
use Rattle.keystream.specs.Work.{through_run, blocks_over, Fits, Later}
use Rattle.whole.specs.Whole.{run_of, plan_blocks}
use Rattle.whole.proofs.Pieces.{none-blocks, some-blocks, none-ciphered}
use Rattle.whole_work.proofs.cipher_pieces.Goals as goal

pub returns-then-has_no_piece : goal.returns-then-has_no_piece
returns-then-has_no_piece c =
    let a = c.args in
    let none = sym c.has_no_piece.ensures ∙ c.if-has_no_piece.true in
    let blocks = none-blocks a.p none in (
      sym (none-ciphered a.p a.buf.now (keystream a.algorithm a.key a.iv) (λ q. omega (arith, c.slice_known-1.given q)) none),
      sym blocks,
      sym (ap schedules_for blocks),
    )

pub xor_runs-requires : goal.xor_runs-requires
xor_runs-requires c =
    let buf = c.args.buf.now in
    let first = c.run_of-first.ensures in
    let second = c.run_of-second.ensures in (
      c.requires.0,
      subst (Fits buf) (sym first) c.requires.1,
      subst (Fits buf) (sym second) c.requires.2,
      subst (λ (p : Run). Later p c.run_of-second.result) (sym first) (subst (Later (run_of c.args.p.first)) (sym second) c.requires.3),
    )

pub returns : goal.returns
returns c =
    let a = c.args in
    let k = keystream a.algorithm a.key a.iv in
    let some = some-blocks a.p (sym c.has_no_piece.ensures ∙ c.if-has_no_piece.false) in (
      c.xor_runs.ensures.0 ∙ (λ i. through_run (through_run a.buf.now k (c.run_of-first.ensures i)) k (c.run_of-second.ensures i)),
      c.xor_runs.ensures.2 ∙ (λ i. blocks_over (c.run_of-first.ensures i) (c.run_of-second.ensures i)),
      c.xor_runs.ensures.1 ∙ rw (ne_eqb (plan_blocks a.p) 0 (λ z. omega (arith, some))),
    )
