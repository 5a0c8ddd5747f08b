-- `answer::put_buffer`: the buffer lies within the longest. Assumes nothing.
use mathlib.Core.Path.{sym, ◌∙◌}
use lib.Seq.{length-take-le}
use Rattle.cases.proofs.Texts.{inside}
use Rattle.cases.proofs.answer.put_buffer.Goals as goal

pub slice_bounds-work-end : goal.slice_bounds-work-end
slice_bounds-work-end c =
    inside c.requires.0 c.buffer_size-n.ensures c.longest-work.ensures

pub slice_bounds-put_ciphered-end : goal.slice_bounds-put_ciphered-end
slice_bounds-put_ciphered-end c =
    let within = inside c.requires.0 c.buffer_size-n.ensures c.longest-work.ensures in
    sym (length-take-le _ _ within)

pub put_ciphered-requires : goal.put_ciphered-requires
put_ciphered-requires c =
    let within = inside c.requires.0 c.buffer_size-n.ensures c.longest-work.ensures in
    let pre = c.requires in
    (pre.0, length-take-le _ _ within ∙ c.buffer_size-n.ensures, pre.1)
