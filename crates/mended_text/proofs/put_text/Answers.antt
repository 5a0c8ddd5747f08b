-- `mended_text::put_text`: with each line it is no longer left. Assumes nothing.
use Rattle.writing.proofs.Left.{left-all, left_as, left-next, left-none, next-room}
use Rattle.mended_text.proofs.Laws.{line-named, lines_none, text-lines}
use Rattle.mended_text.proofs.put_text.Goals as goal

pub loop-name-init : goal.loop-name-init
loop-name-init c = left_as (text-lines _ _ c.requires.0) left-all

pub put_line-at-requires : goal.put_line-at-requires
put_line-at-requires c =
    next-room _ c.requires.1 (left_as (line-named _ _ _ c.loop-name-test.true) c.loop-name.invariant)

pub loop-name-preserved : goal.loop-name-preserved
loop-name-preserved c =
    left-next (left_as (line-named _ _ _ c.loop-name-test.true) c.loop-name.invariant) c.put_line-at.ensures

pub returns : goal.returns
returns c = left-none (left_as (lines_none _ _ _ c.loop-name-test.false) c.loop-name.invariant)
