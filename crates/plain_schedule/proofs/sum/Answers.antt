-- `plain_schedule::sum`: byte by byte. Assumes nothing.
use Rattle.plain_schedule.specs.Bytes.{word_of}
use Rattle.plain_schedule.proofs.Words.{array-bytes, sum-join}
use Rattle.plain_schedule.proofs.sum.Goals as goal

pub returns : goal.returns
unfolding word_of
returns c =
    let x = array-bytes c.args.x c.well_formed.0 in
    let y = array-bytes c.args.y c.well_formed.1.0 in
    sum-join _ _ _ _ _ _ _ _ (x 1) (x 2) (x 3) (y 1) (y 2) (y 3)
