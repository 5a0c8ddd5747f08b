-- `record_writer::put_record`: line after line. Assumes nothing.
use mathlib.Core.Path.{sym, ap}
use Rattle.writing.specs.Text.{line_text}
use Rattle.record_text.specs.Text.{lines_text, form_text}
use Rattle.writing.proofs.Puts.{put_then, put_as, room-first, room-then, room_as}
use Rattle.record_writer.proofs.put_record.Goals as goal

-- the place before each of the later lines

pub put_line-algorithm-requires : goal.put_line-algorithm-requires
unfolding form_text lines_text
put_line-algorithm-requires c =
    room-first _ (room-then c.put_line-version.ensures (room-then c.put_bytes-first.ensures c.requires))

pub put_line-usage-requires : goal.put_line-usage-requires
unfolding form_text lines_text
put_line-usage-requires c =
    room_as (sym (ap (line_text "alg=") c.name.ensures))
    (room-first _ (room-then c.put_line-algorithm.ensures (room-then c.put_line-version.ensures (room-then c.put_bytes-first.ensures c.requires))))

pub put_line-side-requires : goal.put_line-side-requires
unfolding form_text lines_text
put_line-side-requires c =
    let p3 = put_as (ap (line_text "alg=") c.name.ensures) c.put_line-usage.ensures in
    room_as (sym (ap (line_text "use=") c.use_word.ensures))
    (room-first _ (room-then p3 (room-then c.put_line-algorithm.ensures (room-then c.put_line-version.ensures (room-then c.put_bytes-first.ensures c.requires)))))

pub put_last-requires : goal.put_last-requires
unfolding form_text lines_text
put_last-requires c =
    let p3 = put_as (ap (line_text "alg=") c.name.ensures) c.put_line-usage.ensures in
    let p4 = put_as (ap (line_text "use=") c.use_word.ensures) c.put_line-side.ensures in
    room-then p4
    (room-then p3 (room-then c.put_line-algorithm.ensures (room-then c.put_line-version.ensures (room-then c.put_bytes-first.ensures c.requires))))

pub returns : goal.returns
unfolding form_text lines_text
returns c =
    let p3 = put_as (ap (line_text "alg=") c.name.ensures) c.put_line-usage.ensures in
    let p4 = put_as (ap (line_text "use=") c.use_word.ensures) c.put_line-side.ensures in
    put_then c.put_bytes-first.ensures
    (put_then c.put_line-version.ensures (put_then c.put_line-algorithm.ensures (put_then p3 (put_then p4 c.put_last.ensures))))
