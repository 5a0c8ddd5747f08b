-- `plain_schedule::rot_byte`: the word of the turned bytes. Assumes nothing.
use Rattle.plain_schedule.specs.Bytes.{word_of}
use Rattle.plain_schedule.proofs.Words.{array-bytes, rot-join}
use Rattle.plain_schedule.proofs.rot_byte.Goals as goal

pub returns : goal.returns
unfolding word_of
returns c = let small = array-bytes c.args.x c.well_formed.0 in rot-join _ _ _ _ (small 1) (small 2) (small 3)
