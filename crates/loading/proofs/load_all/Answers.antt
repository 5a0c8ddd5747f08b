-- `loading::load_all`: what is left to load stays the same with each record. Assumes nothing.
use Rattle.std.proofs.Common.{rules, arith, ◌≡◌, ◌+◌, ◌-◌, ◌<◌, ◌≤◌, length, take, drop, refl, sym, ap, ◌∙◌, length-drop}
use Rattle.std.proofs.Math.Seq.{take_all}
use Rattle.refusals.specs.Numbers.{done, record_text_bad}
use Rattle.loading.specs.Loading.{load_within, load_all}
use Rattle.loading.proofs.Loads.{takes, load-end, text-refused, load-refused, load-next, one-more}
use Rattle.loading.proofs.load_all.Goals as goal

pub loop-rest-init : goal.loop-rest-init
unfolding load_all
loop-rest-init c =
    let sheet = c.args.sheet.now in
    let z : length sheet ≡ length sheet + 1 - 1 = omega arith in
    (omega arith, omega arith, λ i. load_within (z i) (sym c.empty_table-table.ensures i) 1 sheet)

pub returns-in-Err : goal.returns-in-Err
returns-in-Err c =
    let l = c.loop-rest in
    let rest = l.rest.now in
    let sheet = c.args.sheet.now in
    let some : 0 < length rest = search rules in
    sym (one-more sheet rest l.position l.table some l.invariant.1 l.invariant.2
    ∙ text-refused (length sheet - l.position) _ _ rest some c.in-Err.ensures (λ e. let z : record_text_bad ≡ done = e in omega arith))

pub returns-in-Err-load : goal.returns-in-Err-load
returns-in-Err-load c =
    let l = c.loop-rest in
    let rest = l.rest.now in
    let sheet = c.args.sheet.now in
    let some : 0 < length rest = search rules in
    sym (one-more sheet rest l.position l.table some l.invariant.1 l.invariant.2
    ∙ load-refused (length sheet - l.position) l.table _ rest some c.in-Ok.ensures refl c.from.ensures c.in-Err-load.ensures (λ e. search rules))

pub slice_bounds-rest-count : goal.slice_bounds-rest-count
slice_bounds-rest-count c = (takes _ c.in-Ok.ensures refl).within

pub slice_bounds-rest-start : goal.slice_bounds-rest-start
slice_bounds-rest-start c =
    let within : c.in-Ok.read.used ≤ length c.loop-rest.rest.now = slice_bounds-rest-count c in
    search rules

pub loop-rest-smaller : goal.loop-rest-smaller
loop-rest-smaller c =
    let some : 0 < length c.loop-rest.rest.now = search rules in
    let took : 0 < c.in-Ok.read.used = (takes _ c.in-Ok.ensures refl).some in
    grind arith

pub loop-rest-preserved : goal.loop-rest-preserved
loop-rest-preserved c =
    let l = c.loop-rest in
    let rest = l.rest.now in
    let used = c.in-Ok.read.used in
    let sheet = c.args.sheet.now in
    let some : 0 < length rest = search rules in
    let took = takes _ c.in-Ok.ensures refl in
    let left : take (length rest - used) (drop used rest) ≡ drop used rest = take_all (length rest - used) (drop used rest) (simp length-drop (omega arith)) in
    let z : length sheet - l.position ≡ length sheet + 1 - (l.position + 1) = omega arith in (
      omega arith,
      omega (arith, ap length left, length-drop used rest, took.some, took.within, l.invariant.1),
      one-more sheet rest l.position l.table some l.invariant.1 l.invariant.2
          ∙ load-next (length sheet - l.position) l.table _ rest some c.in-Ok.ensures refl c.from.ensures c.in-Ok-load.ensures refl
          ∙ (λ i. load_within (z i) c.in-Ok-load.loaded (l.position + 1) (sym left i)),
    )

pub returns : goal.returns
returns c = sym (c.loop-rest.invariant.2 ∙ load-end _ _ _ _ (search rules))
