-- `sheet_faults::Lines::next`: the first line, and those after it. Assumes nothing.
use Rattle.std.proofs.Common.{List, ℕ, ◌≤◌, ◌<◌, ◌∷◌, sym, ap, ◌∙◌, length, take, drop, arith, rules}
use borrow.Author.Tests.{eqb-true, eqb-false}
use lib.Seq.{length-take-le}
use Rattle.writing.specs.Text.{lf}
use Rattle.lines.proofs.Pieces.{index-within, piece-within, rest-is}
use Rattle.sheet_faults.specs.Sheet.{lines_of}
use Rattle.sheet_faults.proofs.Walk.{lines_cut, lines_none}
use Rattle.sheet_faults.proofs.LinesIterator.next.Goals as goal

pub returns-then-is_empty-clause-steps : goal.returns-then-is_empty-clause-steps
returns-then-is_empty-clause-steps c =
    let none = lines_none c.args.self.now.rest.now (eqb-true _ _ (sym c.is_empty.ensures ∙ c.if-is_empty.true)) in
    (none, none)

pub slice_bounds-self-count : goal.slice_bounds-self-count
slice_bounds-self-count c = omega (arith, c.piece_length.ensures, piece-within lf c.args.self.now.rest.now)

pub slice_bounds-self-start : goal.slice_bounds-self-start
slice_bounds-self-start c =
    let h : c.piece_length.result ≤ length c.args.self.now.rest.now = omega (arith, c.piece_length.ensures, piece-within lf c.args.self.now.rest.now) in
    search rules

pub slice_bounds-result-end : goal.slice_bounds-result-end
slice_bounds-result-end c = sym (length-take-le _ _ (omega (arith, c.index_of.ensures, index-within lf c.args.self.now.rest.now)))

pub returns-clause-steps : goal.returns-clause-steps
returns-clause-steps c =
    let s = c.args.self.now.rest.now in
    let some : 0 < length s = (let h = eqb-false _ _ (sym c.is_empty.ensures ∙ c.if-is_empty.false) in omega arith) in
    lines_cut s some
    ∙ (λ i. take (sym c.index_of.ensures i) s ∷ lines_of (drop (sym c.piece_length.ensures i) s))
    ∙ ap (λ (t : List ℕ). take c.index_of.result s ∷ lines_of t) (sym (rest-is s c.piece_length.result))

pub returns-clause-goes : goal.returns-clause-goes
returns-clause-goes c = let n = ap length (returns-clause-steps c) in search rules
