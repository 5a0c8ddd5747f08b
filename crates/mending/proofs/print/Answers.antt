-- `mending::print`: the mended sheet, or the refusal. Assumes nothing.
use mathlib.Core.Path.{refl, sym, ap, ◌∙◌}
use Prim.Native.Nat.{ℕ}
use Rattle.writing.specs.Text.{digits, line_text}
use Rattle.writing.proofs.Puts.{put_as, room_as}
use borrow.Author.Tests.{lt-ltb}
use Rattle.mending.specs.Answer.{print_room, print_out}
use Rattle.mending.proofs.Answers.{not-done, print-done, refused-room, refused-printed}
use Rattle.mending.proofs.print.Goals as goal

pub returns-then-buffer-lt-ROOM : goal.returns-then-buffer-lt-ROOM
unfolding print_out
returns-then-buffer-lt-ROOM c = rw (lt-ltb _ print_room c.if-buffer-lt-ROOM.true)

pub returns-in-Ok : goal.returns-in-Ok
returns-in-Ok c = print-done _ _ c.if-buffer-lt-ROOM.false c.in-Ok.ensures refl

pub put_line-requires : goal.put_line-requires
put_line-requires c =
    room_as (ap (λ (n : ℕ). line_text "refused=" (digits n)) (sym (c.from.ensures ∙ c.number.ensures)))
    (refused-room _ _ c.if-buffer-lt-ROOM.false c.in-Err.ensures (not-done c.in-Err.refusal))

pub returns-in-Err : goal.returns-in-Err
returns-in-Err c =
    refused-printed _ _ c.if-buffer-lt-ROOM.false c.in-Err.ensures (not-done c.in-Err.refusal)
    (put_as (ap (λ (n : ℕ). line_text "refused=" (digits n)) (c.from.ensures ∙ c.number.ensures)) c.put_line.ensures)
