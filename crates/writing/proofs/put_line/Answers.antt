-- `writing::put_line`: the name and the value, and then LF. Assumes nothing.
use mathlib.Core.List.{[], ◌∷◌}
use Rattle.writing.specs.Text.{lf}
use Rattle.writing.proofs.Puts.{put-length, ended-first, ended-then, ended-put}
use Rattle.writing.proofs.put_line.Goals as goal

pub put_item-end-requires : goal.put_item-end-requires
put_item-end-requires g c = ended-first c.args.name.now (g.V.Shown.shown c.args.value) (lf ∷ []) c.requires

pub put_bytes-requires : goal.put_bytes-requires
put_bytes-requires g c = ended-then c.args.name.now (g.V.Shown.shown c.args.value) (lf ∷ []) c.put_item-end.ensures c.requires

pub returns : goal.returns
returns g c = ended-put c.args.name.now (g.V.Shown.shown c.args.value) (lf ∷ []) c.put_item-end.ensures c.put_bytes.ensures

pub shape_of-buffer : goal.shape_of-buffer
shape_of-buffer g c = put-length (returns g c)
