-- `plain_schedule::key_word`: four bytes of the key. Assumes nothing.
use mathlib.Core.Path.{refl}
use Rattle.schedule.specs.Schedule.{packed}
use Rattle.plain_schedule.specs.Bytes.{word_of}
use Rattle.plain_schedule.proofs.key_word.Goals as goal

pub returns : goal.returns
unfolding word_of packed
returns c = refl
