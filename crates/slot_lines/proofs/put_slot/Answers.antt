-- `slot_lines::put_slot`: the line where the slot is filled. Assumes nothing.
use mathlib.Core.Path.{sym, ◌∙◌}
use native.Mathlib.Omega.{arith}
use Rattle.slots.specs.Slots.{is_filled}
use Rattle.writing.proofs.Puts.{put_as, put-none}
use Rattle.slot_lines.proofs.Lines.{filled-text, empty-text}
use Rattle.slot_lines.proofs.put_slot.Goals as goal

pub put_slot_line-requires : goal.put_slot_line-requires
unfolding is_filled
put_slot_line-requires c = (c.requires.0, c.requires.1, sym c.is_filled.ensures ∙ c.if-is_filled.true)

pub returns-then-is_filled : goal.returns-then-is_filled
returns-then-is_filled c =
    let put = c.put_slot_line.ensures in
    (put.0, put_as (sym (filled-text _ _ (sym c.is_filled.ensures ∙ c.if-is_filled.true))) put.1)

pub returns-else-is_filled : goal.returns-else-is_filled
returns-else-is_filled c = (omega arith, put_as (sym (empty-text _ _ (sym c.is_filled.ensures ∙ c.if-is_filled.false))) (put-none _ _))
