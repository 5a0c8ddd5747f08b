-- `plain_schedule::sub_byte`: byte by byte. Assumes nothing.
use mathlib.Core.Path.{◌∙◌}
use Rattle.words.specs.Words.{join}
use Rattle.plain_schedule.specs.Bytes.{word_of}
use Rattle.plain_schedule.proofs.Words.{array-bytes, sub-join}
use Rattle.plain_schedule.proofs.sub_byte.Goals as goal

pub returns : goal.returns
unfolding word_of
returns c =
    let small = array-bytes c.args.x c.well_formed.0 in
    (λ i. join (c.s_box.ensures i) (c.s_box-2.ensures i) (c.s_box-3.ensures i) (c.s_box-4.ensures i))
    ∙ sub-join _ _ _ _ (small 1) (small 2) (small 3)
