-- `keystream::reach`: the last block, or one that is made. Assumes nothing.
use mathlib.Core.Path.{sym, subst}
use Prim.Native.Nat.{ℕ, ◌+◌}
use borrow.Author.Tests.{eq-eqb, ne_eqb}
use Rattle.keystream.specs.Work.{Held}
use Rattle.keystream.proofs.Order.{put-held}
use Rattle.keystream.proofs.reach.Goals as goal

pub returns-then-work-j : goal.returns-then-work-j
returns-then-work-j c =
    (rw (eq-eqb _ _ c.if-work-j.true), subst (λ (n : ℕ). Held c.args.engine.now.mode.now n c.args.kept.now) c.if-work-j.true c.requires.3)

pub returns : goal.returns
returns c =
    let a = c.args in
    (rw (ne_eqb _ _ c.if-work-j.false) c.make.ensures.0, subst (Held a.engine.now.mode.now (a.j + 1)) (sym c.make.ensures.1) (put-held a.engine.now.mode.now a.j a.kept.now c.requires.3.two))
