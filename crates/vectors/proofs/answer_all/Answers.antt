-- `vectors::answer_all`: a line lies within what is left, and takes some of it. Assumes nothing.
use Rattle.std.proofs.Common.{rules, arith, sym, ◌<◌, ◌≤◌, length}
use Rattle.std.proofs.lemmas.List.{length-take-le}
use Rattle.lines.proofs.Pieces.{piece-within, piece-some}
use Rattle.vectors.proofs.answer_all.Goals as goal

pub slice_bounds-rest-count : goal.slice_bounds-rest-count
slice_bounds-rest-count g c = omega (arith, c.line_length-size.ensures, piece-within 10 c.loop-rest.rest.now)

pub slice_bounds-put_answer-end : goal.slice_bounds-put_answer-end
slice_bounds-put_answer-end g c = sym (length-take-le _ _ (omega (arith, c.line_length-size.ensures, piece-within 10 c.loop-rest.rest.now)))

pub slice_bounds-rest-start : goal.slice_bounds-rest-start
slice_bounds-rest-start g c =
    let within : c.line_length-size.result ≤ length c.loop-rest.rest.now = slice_bounds-rest-count g c in
    search rules

pub loop-rest-smaller : goal.loop-rest-smaller
loop-rest-smaller g c =
    let filled : 0 < length c.loop-rest.rest.now = search rules in
    let took : 0 < c.line_length-size.result = omega (arith, c.line_length-size.ensures, piece-some 10 c.loop-rest.rest.now filled) in
    grind arith
