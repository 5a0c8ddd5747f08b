-- `plan::Pdu::pieces`: what is not refused in state 3 has its address before its DM-SDU, and the DM-SDU within the PDU. Assumes nothing.
use mathlib.Core.Path.{sym, ◌∙◌}
use Prim.Native.Nat.{◌+◌}
use lib.Dec.{ltb}
use native.Mathlib.Omega.{arith}
use borrow.Author.Tests.{ne_eqb, ltb-false}
use Rattle.laws.proofs.Cases.{neither}
use Rattle.plan.specs.Plan.{address_bits, past_keystream}
use Rattle.plan.proofs.Sound.{passed, short}
use Rattle.plan.proofs.Pdu.pieces.Goals as goal

pub second_skip-skip-requires : goal.second_skip-skip-requires
second_skip-skip-requires c =
    let g = c.args.self in
    let fits = (passed g.kind g.state g.flag g.length g.address g.sdu c.requires).1 in
    let here = simp (sym c.stays_clear.ensures ∙ c.if-stays_clear.false, ne_eqb g.state 1 (λ e. omega arith), ne_eqb g.state 2 (λ e. omega arith)) at fits in
    let parts = neither (ltb g.sdu (g.address + address_bits)) (ltb g.length g.sdu) (neither _ (past_keystream g.length g.address g.sdu) here).0 in
    let most = short g.kind g.state g.flag g.length g.address g.sdu c.requires in
    (ltb-false _ _ parts.0, omega (arith, ltb-false g.length g.sdu parts.1, most))
