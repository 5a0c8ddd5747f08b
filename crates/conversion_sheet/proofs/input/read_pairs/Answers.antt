-- `input::read_pairs`: the numbers of the lines passed, and those of the lines that are left. Assumes nothing.
use Rattle.std.proofs.Common.{rules, arith, ◌≡◌, ◌-◌, ◌+◌, ◌<◌, ◌++◌, List, ℕ, suc, length, take, drop, sym, ap, ◌∙◌, length-drop}
use Rattle.std.proofs.Math.Seq.{take_all}
use Rattle.conversion_sheet.specs.declared.input.Named.{Named}
use Rattle.conversion_sheet.specs.Input.{lines_numbers, pair_numbers}
use Rattle.conversion_sheet.proofs.Inputs.{numbers-none, pair-read, pairs-end}
use Rattle.conversion_sheet.proofs.input.read_pairs.Goals as goal

pub loop-init : goal.loop-init
unfolding pair_numbers
loop-init c =
    let none = c.new-numbers.ensures in
    (ap length none, ap (λ (l : List ℕ). l ++ lines_numbers 33 c.args.s.now) (sym none))

pub loop-preserved : goal.loop-preserved
loop-preserved c =
    let rest = c.loop.rest.now in
    let items = c.loop.numbers.items in
    let size = c.line_size.result in
    let some : 0 < length rest = search rules in
    let within = c.line_size.ensures.1 in
    let fuel : 33 - c.loop.counter ≡ suc (33 - (c.loop.counter + 1)) = omega arith in
    let left : take (length rest - size) (drop size rest) ≡ drop size rest = take_all (length rest - size) (drop size rest) (simp length-drop (omega arith)) in
    let named = c.named_by-named.ensures in (
      omega (arith, c.push.ensures.len, c.push-in-loop.ensures.len, c.loop.invariant.0),
      c.loop.invariant.1
          ∙ pair-read items rest _ fuel some (ap (λ (n : Named). n.«before») named) (ap (λ (n : Named). n.after) named) c.line_size.ensures.0 c.push.ensures.items c.push-in-loop.ensures.items left,
    )

pub returns-after-loop : goal.returns-after-loop
unfolding lines_numbers
returns-after-loop c =
    let last : 33 - c.loop.counter ≡ 0 = omega arith in
    sym (c.loop.invariant.1 ∙ pairs-end c.loop.numbers.items c.loop.rest.now _ (ap (λ k. lines_numbers k c.loop.rest.now) last))

pub returns-then-is_empty : goal.returns-then-is_empty
returns-then-is_empty c =
    let empty : length c.loop.rest.now ≡ 0 = search rules in
    sym (c.loop.invariant.1 ∙ pairs-end c.loop.numbers.items c.loop.rest.now _ (numbers-none _ _ empty))
