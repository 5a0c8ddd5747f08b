-- `lines::part`: a space after it lies in the text. Assumes nothing.
use Rattle.std.proofs.Common.{sym, arith}
use Rattle.std.proofs.lemmas.List.{length-take-le}
use Rattle.lines.specs.Line.{space}
use Rattle.lines.proofs.Pieces.{index-within}
use Rattle.lines.proofs.part.Goals as goal

pub slice_bounds-result-end : goal.slice_bounds-result-end
slice_bounds-result-end c =
    let rest = c.after_spaces-rest.result.now in
    sym (length-take-le _ rest (omega (arith, c.index_of.ensures, index-within space rest)))
