-- `changes::put_change`: nothing, or the line. Assumes nothing.
use mathlib.Core.Path.{◌≡◌, sym, ap, ◌∙◌}
use mathlib.Core.Bool.{Bool}
use mathlib.Core.List.{◌∷◌, [], ◌++◌}
use Rattle.writing.specs.Text.{ascii, lf}
use Rattle.writing.proofs.Puts.{put_as, put-none, put_then, put-length, room_as, room-first, room-then}
use Rattle.mending.specs.Changes.{change_text}
use Rattle.mending.proofs.Changed.{change-made, change-none}
use Rattle.mending.proofs.changes.put_change.Goals as goal

pub returns-then-not-made : goal.returns-then-not-made
returns-then-not-made c =
    let args = c.args in
    put_as (sym (ap (λ (t : Bool). change_text t args.name.now) (c.if-not-made.true) ∙ change-none args.name.now)) (put-none _ _)

-- a line is put

pub put_bytes-value-requires : goal.put_bytes-value-requires
put_bytes-value-requires c =
    let is_made : let args = c.args in change_text args.made args.name.now ≡ ascii "changed=" ++ (args.name.now ++ (lf ∷ [])) =
    let args = c.args in
    ap (λ (t : Bool). change_text t args.name.now) (c.if-not-made.false) ∙ change-made args.name.now
    in
    room-first _ (room_as is_made c.requires)

pub put_bytes-end-requires : goal.put_bytes-end-requires
put_bytes-end-requires c =
    let is_made : let args = c.args in change_text args.made args.name.now ≡ ascii "changed=" ++ (args.name.now ++ (lf ∷ [])) =
    let args = c.args in
    ap (λ (t : Bool). change_text t args.name.now) (c.if-not-made.false) ∙ change-made args.name.now
    in
    room-first _ (room-then c.put_bytes-value.ensures (room_as is_made c.requires))

pub put_bytes-requires : goal.put_bytes-requires
put_bytes-requires c =
    let is_made : let args = c.args in change_text args.made args.name.now ≡ ascii "changed=" ++ (args.name.now ++ (lf ∷ [])) =
    let args = c.args in
    ap (λ (t : Bool). change_text t args.name.now) (c.if-not-made.false) ∙ change-made args.name.now
    in
    room-then c.put_bytes-end.ensures (room-then c.put_bytes-value.ensures (room_as is_made c.requires))

pub returns : goal.returns
returns c =
    let is_made : let args = c.args in change_text args.made args.name.now ≡ ascii "changed=" ++ (args.name.now ++ (lf ∷ [])) =
    let args = c.args in
    ap (λ (t : Bool). change_text t args.name.now) (c.if-not-made.false) ∙ change-made args.name.now
    in
    put_as (sym is_made)
    (put_then c.put_bytes-value.ensures (put_then c.put_bytes-end.ensures c.put_bytes.ensures))

pub shape_of-buffer : goal.shape_of-buffer
shape_of-buffer c = put-length (returns c)
