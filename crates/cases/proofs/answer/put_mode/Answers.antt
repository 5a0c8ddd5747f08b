-- `answer::put_mode`: three values, one after the other. Assumes nothing.
use mathlib.Core.List.{◌++◌}
use mathlib.Core.Path.{◌≡◌}
use native.Mathlib.Omega.{arith}
use Rattle.writing.proofs.Puts.{put_then, put-length, put_as}
use Rattle.cases.specs.Answer.{value_text, mode_text}
use Rattle.cases.proofs.answer.put_mode.Goals as goal

pub put_value-value_at-requires : goal.put_value-value_at-requires
put_value-value_at-requires c = let first = c.put_value-key_at.ensures in omega (arith, first.0, put-length first.1, c.requires)

pub put_value-requires : goal.put_value-requires
put_value-requires c =
    let first = c.put_value-key_at.ensures in
    let second = c.put_value-value_at.ensures in
    omega (arith, first.0, second.0, put-length first.1, put-length second.1, c.requires)

-- the three values are those of the definition

pub returns : goal.returns
unfolding mode_text
returns c =
    let made : value_text c.mixed_value-mixed.result ++ (value_text c.mode_of-mode.result.key ++ value_text c.mode_of-mode.result.value) ≡ mode_text c.args.algorithm c.args.ck c.args.iv =
    let mode = c.mode_of-mode.ensures in
    λ i. value_text (c.mixed_value-mixed.ensures i) ++ (value_text (mode i).key ++ value_text (mode i).value)
    in
    put_as made
    (put_then c.put_value-key_at.ensures.1 (put_then c.put_value-value_at.ensures.1 c.put_value.ensures.1))
