-- `mended_text::put_value`: by the names of the form. Assumes nothing.
use mathlib.Core.Path.{sym, ap, ◌∙◌}
use Rattle.writing.proofs.Puts.{put_as, room_as}
use Rattle.line_names.specs.Names.{number_of}
use Rattle.mended_text.specs.Text.{mended_value}
use Rattle.mended_text.proofs.Laws.{value-given, value-gained}
use Rattle.mended_text.proofs.put_value.Goals as goal

pub put_mended-requires : goal.put_mended-requires
put_mended-requires c =
    room_as (value-given _ _ _ (sym c.is_in.ensures ∙ c.if-is_in.true) ∙ ap (mended_value (number_of c.args.name)) (sym c.value_named.ensures)) c.requires

pub returns-then-is_in : goal.returns-then-is_in
returns-then-is_in c =
    put_as (ap (mended_value (number_of c.args.name)) c.value_named.ensures ∙ sym (value-given _ _ _ (sym c.is_in.ensures ∙ c.if-is_in.true))) c.put_mended.ensures

pub put_bytes-requires : goal.put_bytes-requires
put_bytes-requires c = room_as (value-gained _ _ _ (sym c.is_in.ensures ∙ c.if-is_in.false) ∙ sym c.gained.ensures) c.requires

pub returns-else-is_in : goal.returns-else-is_in
returns-else-is_in c = put_as (c.gained.ensures ∙ sym (value-gained _ _ _ (sym c.is_in.ensures ∙ c.if-is_in.false))) c.put_bytes.ensures
