-- `shares::share_of`: by the test of the whole; the divisor of a whole above 0 is above 0. Assumes nothing.
use mathlib.Core.Path.{sym, subst, ap}
use Prim.Native.Nat.{ℕ, ◌<◌, ◌/◌}
use native.Mathlib.Nat.{pos_of_dvd_of_pos}
use borrow.Author.Tests.{eq-eqb, ne_eqb}
use Rattle.shares.specs.Share.{fraction_of, share_of}
use Rattle.shares.proofs.Euclid.{gcd-divides}
use Rattle.shares.proofs.Lowest.{positive_of}
use Rattle.shares.proofs.share_of.Goals as goal

pub returns-then-whole-eq0 : goal.returns-then-whole-eq0
unfolding share_of
returns-then-whole-eq0 c = rw (eq-eqb _ _ c.if-whole-eq0.true)

pub nonzero_div-result : goal.nonzero_div-result
nonzero_div-result c =
    let above : 0 < c.gcd-divisor.result =
    subst (λ (g : ℕ). 0 < g) (sym c.gcd-divisor.ensures)
    (pos_of_dvd_of_pos (gcd-divides _ _).1 (positive_of _ c.if-whole-eq0.false))
    in
    above

pub nonzero_div-result-2 : goal.nonzero_div-result-2
nonzero_div-result-2 c =
    let above : 0 < c.gcd-divisor.result =
    subst (λ (g : ℕ). 0 < g) (sym c.gcd-divisor.ensures)
    (pos_of_dvd_of_pos (gcd-divides _ _).1 (positive_of _ c.if-whole-eq0.false))
    in
    above

pub returns : goal.returns
unfolding share_of
returns c = rw (ne_eqb _ _ c.if-whole-eq0.false) (ap (λ (g : ℕ). fraction_of (c.args.part / g) (c.args.whole / g)) c.gcd-divisor.ensures)
