-- `gathering::gather`: what is left to gather stays the same with each record. Assumes nothing.
use Rattle.std.proofs.Common.{rules, arith, ◌-◌, ◌<◌, ◌≤◌, length, drop, refl, sym, ap, ◌∙◌, length-drop}
use Rattle.std.proofs.Math.Seq.{take_all}
use Rattle.gathering.specs.Gathering.{entered, gather_on, gathered}
use Rattle.gathering.proofs.Gathers.{reads-number, stops, takes, goes-on, gather-end}
use Rattle.gathering.proofs.gather.Goals as goal

pub loop-rest-init : goal.loop-rest-init
unfolding gathered
loop-rest-init c = ap (λ t. gather_on t c.args.text.now) (sym c.empty_table-table.ensures)

pub enter-requires : goal.enter-requires
enter-requires c = reads-number c.loop-rest.table _ (search rules) c.in-Ok.ensures refl

pub returns-in-Err : goal.returns-in-Err
unfolding entered
returns-in-Err c = stops c.loop-rest.table _ (search rules) c.in-Err.ensures refl ∙ sym c.loop-rest.invariant

pub returns-in_err-table : goal.returns-in_err-table
returns-in_err-table c =
    rw c.from_residual.ensures
    (stops c.loop-rest.table _ (search rules) c.in-Ok.ensures c.in_err-table.ensures ∙ sym c.loop-rest.invariant)

pub slice_bounds-rest-count : goal.slice_bounds-rest-count
slice_bounds-rest-count c =
    (takes c.loop-rest.table _ (search rules) c.in-Ok.ensures c.in_ok-table.ensures).1

pub slice_bounds-rest-start : goal.slice_bounds-rest-start
slice_bounds-rest-start c =
    let within : c.in-Ok.read.used ≤ length c.loop-rest.rest.now = slice_bounds-rest-count c in
    search rules

pub loop-rest-smaller : goal.loop-rest-smaller
loop-rest-smaller c =
    let took : 0 < c.in-Ok.read.used = (takes c.loop-rest.table _ (search rules) c.in-Ok.ensures c.in_ok-table.ensures).0 in
    grind arith

pub loop-rest-preserved : goal.loop-rest-preserved
loop-rest-preserved c =
    let rest = c.loop-rest.rest.now in
    let used = c.in-Ok.read.used in
    c.loop-rest.invariant
    ∙ goes-on _ _ (search rules) c.in-Ok.ensures c.in_ok-table.ensures
    ∙ ap (gather_on _) (sym (take_all (length rest - used) (drop used rest) (simp length-drop (omega arith))))

pub returns : goal.returns
returns c = sym (c.loop-rest.invariant ∙ gather-end _ _ (search rules))
