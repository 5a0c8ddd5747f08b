-- `changes::put_changes`: line after line, each with room for it and those that follow. Assumes nothing.
use mathlib.Core.Path.{ap}
use mathlib.Core.Bool.{not}
use Rattle.writing.specs.Text.{ascii}
use Rattle.writing.proofs.Puts.{put_then, room-first, room-then}
use Rattle.mending.specs.Changes.{changes_text}
use Rattle.mending.proofs.Changed.{made-put, made-room}
use Rattle.mending.proofs.changes.put_changes.Goals as goal

pub put_change-at-requires : goal.put_change-at-requires
unfolding changes_text
put_change-at-requires c =
    made-room (ascii "crlf") c.any_fault.ensures (room-first _ c.requires.1)

pub put_change-at-requires-2 : goal.put_change-at-requires-2
unfolding changes_text
put_change-at-requires-2 c =
    made-room (ascii "hex") c.any_fault-2.ensures (room-first _ (room-then (made-put (ascii "crlf") c.any_fault.ensures c.put_change-at.ensures) c.requires.1))

pub put_change-at-requires-3 : goal.put_change-at-requires-3
unfolding changes_text
put_change-at-requires-3 c =
    made-room (ascii "zeros") c.any_fault-3.ensures (room-first _ (room-then (made-put (ascii "hex") c.any_fault-2.ensures c.put_change-at-2.ensures) (room-then (made-put (ascii "crlf") c.any_fault.ensures c.put_change-at.ensures) c.requires.1)))

pub put_change-at-requires-4 : goal.put_change-at-requires-4
unfolding changes_text
put_change-at-requires-4 c =
    made-room (ascii "spaces") c.any_fault-4.ensures (room-first _ (room-then (made-put (ascii "zeros") c.any_fault-3.ensures c.put_change-at-3.ensures) (room-then (made-put (ascii "hex") c.any_fault-2.ensures c.put_change-at-2.ensures) (room-then (made-put (ascii "crlf") c.any_fault.ensures c.put_change-at.ensures) c.requires.1))))

pub put_change-at-requires-5 : goal.put_change-at-requires-5
unfolding changes_text
put_change-at-requires-5 c =
    made-room (ascii "order") (ap not c.in_order.ensures) (room-first _ (room-then (made-put (ascii "spaces") c.any_fault-4.ensures c.put_change-at-4.ensures) (room-then (made-put (ascii "zeros") c.any_fault-3.ensures c.put_change-at-3.ensures) (room-then (made-put (ascii "hex") c.any_fault-2.ensures c.put_change-at-2.ensures) (room-then (made-put (ascii "crlf") c.any_fault.ensures c.put_change-at.ensures) c.requires.1)))))

pub put_change-requires : goal.put_change-requires
unfolding changes_text
put_change-requires c =
    made-room (ascii "form") (ap not c.requires.0) (room-then (made-put (ascii "order") (ap not c.in_order.ensures) c.put_change-at-5.ensures) (room-then (made-put (ascii "spaces") c.any_fault-4.ensures c.put_change-at-4.ensures) (room-then (made-put (ascii "zeros") c.any_fault-3.ensures c.put_change-at-3.ensures) (room-then (made-put (ascii "hex") c.any_fault-2.ensures c.put_change-at-2.ensures) (room-then (made-put (ascii "crlf") c.any_fault.ensures c.put_change-at.ensures) c.requires.1)))))

pub returns : goal.returns
unfolding changes_text
returns c =
    put_then (made-put (ascii "crlf") c.any_fault.ensures c.put_change-at.ensures) (put_then (made-put (ascii "hex") c.any_fault-2.ensures c.put_change-at-2.ensures) (put_then (made-put (ascii "zeros") c.any_fault-3.ensures c.put_change-at-3.ensures) (put_then (made-put (ascii "spaces") c.any_fault-4.ensures c.put_change-at-4.ensures) (put_then (made-put (ascii "order") (ap not c.in_order.ensures) c.put_change-at-5.ensures) (made-put (ascii "form") (ap not c.requires.0) c.put_change.ensures)))))
