-- `mending::mend_values`: by the tests that are left, each in its place. Assumes nothing.
use mathlib.Core.Path.{◌≡◌, sym, ap, ◌∙◌}
use Prim.Native.Nat.{ℕ, ◌≤◌}
use native.Mathlib.Omega.{arith}
use lib.ListN.{length, replicate, length-replicate}
use lib.Seq.{length-take-le}
use Rattle.refusals.specs.Numbers.{done}
use Rattle.writing.specs.Writing.{Room}
use Rattle.writing.proofs.Puts.{put_as, room_as}
use Rattle.sheet_faults.specs.Sheet.{lines_of}
use Rattle.mended_text.specs.Text.{text_mended}
use Rattle.mending.specs.Changes.{is_record, sheet_mended}
use Rattle.mending.specs.Answer.{mend_as}
use Rattle.mending.proofs.Answers.{put_front, put-taken, text-room, end-within, changes-room, last_within, last-is, sheet-taken, out-value, out-room, out-done}
use Rattle.mending.proofs.mend_values.Goals as goal

-- the buffer of the sheet

size : length (replicate {A = ℕ} 4277 0) ≡ 4277
size = length-replicate {A = ℕ} 4277 0

pub put_text-end-requires : goal.put_text-end-requires
put_text-end-requires c =
    let good = c.requires in
    (c.is_form_two-two.ensures, text-room _ good size)

pub slice_bounds-sheet-end : goal.slice_bounds-sheet-end
slice_bounds-sheet-end c = end-within _ c.requires size c.put_text-end.ensures

pub slice_bounds-is_record-end : goal.slice_bounds-is_record-end
slice_bounds-is_record-end c = sym (length-take-le _ _ (end-within _ c.requires size c.put_text-end.ensures))

-- what is read is the mended text

pub returns-then-not-is_record : goal.returns-then-not-is_record
returns-then-not-is_record c =
    let good = c.requires in
    let is_read : c.is_record.result ≡ is_record (text_mended (lines_of c.args.text.now)) =
    c.is_record.ensures ∙ ap is_record (put-taken c.put_text-end.ensures (text-room _ good size))
    in
    out-value _ _ good (sym is_read ∙ c.if-not-is_record.true)

pub put_changes-length-requires : goal.put_changes-length-requires
put_changes-length-requires c =
    let good = c.requires in
    (c.is_form_two-two.ensures, changes-room _ good size c.put_text-end.ensures)

pub returns-then-buffer-length : goal.returns-then-buffer-length
returns-then-buffer-length c =
    let good = c.requires in
    let is_read : c.is_record.result ≡ is_record (text_mended (lines_of c.args.text.now)) =
    c.is_record.ensures ∙ ap is_record (put-taken c.put_text-end.ensures (text-room _ good size))
    in
    out-room _ _ good (sym is_read ∙ c.if-not-is_record.false)
    (omega (arith, last-is _ good size c.put_text-end.ensures c.put_changes-length.ensures, c.if-buffer-length.true))

pub slice_bounds-sheet-end-2 : goal.slice_bounds-sheet-end-2
slice_bounds-sheet-end-2 c =
    last_within _ c.requires size c.put_text-end.ensures c.put_changes-length.ensures

pub slice_bounds-put_bytes-end : goal.slice_bounds-put_bytes-end
slice_bounds-put_bytes-end c =
    sym (length-take-le _ _ (last_within _ c.requires size c.put_text-end.ensures c.put_changes-length.ensures))

-- what is copied is the mended sheet

-- and the buffer has room for it

pub put_bytes-requires : goal.put_bytes-requires
put_bytes-requires c =
    let good = c.requires in
    let is-sheet = sheet-taken _ good size c.put_text-end.ensures c.put_changes-length.ensures in
    let sheet-fits : length (sheet_mended (lines_of c.args.text.now)) ≤ length c.args.buffer.now =
    omega (
      arith,
      last-is _ good size c.put_text-end.ensures c.put_changes-length.ensures,
      c.if-buffer-length.false,
    )
    in
    let sheet-room : Room c.args.buffer.now 0 (sheet_mended (lines_of c.args.text.now)) =
    let h = sheet-fits in record { fits = omega arith }
    in
    room_as (sym is-sheet) sheet-room

pub returns : goal.returns
returns c =
    let good = c.requires in
    let is_read : c.is_record.result ≡ is_record (text_mended (lines_of c.args.text.now)) =
    c.is_record.ensures ∙ ap is_record (put-taken c.put_text-end.ensures (text-room _ good size))
    in
    let is-sheet = sheet-taken _ good size c.put_text-end.ensures c.put_changes-length.ensures in
    let sheet-fits : length (sheet_mended (lines_of c.args.text.now)) ≤ length c.args.buffer.now =
    omega (
      arith,
      last-is _ good size c.put_text-end.ensures c.put_changes-length.ensures,
      c.if-buffer-length.false,
    )
    in
    let sheet-room : Room c.args.buffer.now 0 (sheet_mended (lines_of c.args.text.now)) =
    let h = sheet-fits in record { fits = omega arith }
    in
    let ends = last-is _ good size c.put_text-end.ensures c.put_changes-length.ensures in
    let holds = put_front (put_as is-sheet c.put_bytes.ensures) sheet-room in
    (λ i. mend_as done (ends i) (holds i))
    ∙ out-done _ _ good (sym is_read ∙ c.if-not-is_record.false) sheet-fits
