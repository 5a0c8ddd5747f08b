-- `lines::after_spaces`: what is to be left stays the same with each space. Assumes nothing.
use Rattle.std.proofs.Common.{◌≡◌, ℕ, ◌-◌, ◌∙◌, sym, ap, arith}
use Rattle.lines.specs.Line.{space, after_spaces}
use Rattle.lines.proofs.Pieces.{piece-within, step-on, step-none}
use Rattle.lines.proofs.after_spaces.Goals as goal

pub loop-init : goal.loop-init
loop-init c =
    let args = c.args in
    let z : args.k ≡ args.k - 0 = omega arith in
    ap (λ (m : ℕ). after_spaces m args.line.now) z

pub slice_bounds-rest-count : goal.slice_bounds-rest-count
slice_bounds-rest-count c = omega (arith, c.piece_length.ensures, piece-within space c.loop.rest.now)

pub slice_bounds-rest-start : goal.slice_bounds-rest-start
slice_bounds-rest-start c = omega (arith, c.piece_length.ensures, piece-within space c.loop.rest.now)

pub loop-preserved : goal.loop-preserved
loop-preserved c = c.loop.invariant ∙ step-on _ _ _ _ c.piece_length.ensures c.loop-test.true

pub returns : goal.returns
returns c = step-none _ _ _ c.loop-test.false ∙ sym c.loop.invariant
