-- `answer::put_accepted`: the three values, and then the buffer. Assumes nothing.
use mathlib.Core.List.{◌++◌}
use mathlib.Core.Path.{◌≡◌}
use native.Mathlib.Omega.{arith}
use Rattle.writing.proofs.Puts.{put_then, put-length, put_as}
use Rattle.case_reader.specs.Case.{case_of}
use Rattle.cases.specs.Answer.{mode_text, buffer_text, accepted_text}
use Rattle.cases.proofs.Texts.{mode-length, buffer-fits}
use Rattle.cases.proofs.answer.put_accepted.Goals as goal

pub put_buffer-requires : goal.put_buffer-requires
put_buffer-requires c =
    let mode = c.put_mode-at.ensures in
    let pre = c.requires in
    (pre.0, record { fits = omega (arith, mode.ends, mode-length c.value.result c.key_of.result c.iv_of.result, put-length mode, buffer-fits pre.0, pre.1) })

-- the values are those of the case

pub returns : goal.returns
unfolding accepted_text case_of
returns c =
    let made : mode_text c.value.result c.key_of.result c.iv_of.result ++ buffer_text (case_of c.args.line.now) ≡ accepted_text (case_of c.args.line.now) =
    λ i. mode_text (c.value.ensures i) (c.key_of.ensures i) (c.iv_of.ensures i) ++ buffer_text (case_of c.args.line.now)
    in
    put_as made (put_then c.put_mode-at.ensures c.put_buffer.ensures)
