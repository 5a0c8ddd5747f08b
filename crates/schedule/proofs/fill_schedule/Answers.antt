-- `schedule::fill_schedule`: the two loops, one after the other. Assumes nothing.
use lib.Dec.{lit≤}
use Rattle.laws.proofs.Lists.{fill-all}
use Rattle.schedule.proofs.fill_schedule.Goals as goal

pub returns : goal.returns
returns c = fill-all (c.more_words.ensures _ c.key_words.ensures) (lit≤ tt)
