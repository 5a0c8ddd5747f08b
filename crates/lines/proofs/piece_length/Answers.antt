-- `lines::piece_length`: what ends a piece lies in the text. Assumes nothing.
use Rattle.std.proofs.Common.{arith}
use Rattle.lines.proofs.Pieces.{index-within}
use Rattle.lines.proofs.piece_length.Goals as goal

pub overflow_add-result : goal.overflow_add-result
overflow_add-result c =
    let args = c.args in
    record { fits = omega (arith, c.index_of-end.ensures, index-within args.b args.s.now, c.if-end-s.false) }
