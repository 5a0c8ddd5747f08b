-- `mended_text::put_mended`: without the zeros that are dropped, and by the name. Assumes nothing.
use mathlib.Core.Path.{◌≡◌, sym, ap, ◌∙◌}
use Prim.Native.Nat.{◌≤◌}
use native.Mathlib.Omega.{arith}
use lib.Dec.{eqb}
use lib.ListN.{length}
use borrow.Author.Tests.{eqb-true, eqb-false}
use Rattle.std.proofs.Common.{rules}
use Rattle.writing.proofs.Puts.{put_as, room_as}
use Rattle.line_names.specs.Names.{key_name, number_of}
use Rattle.mended_text.specs.Text.{lowered}
use Rattle.mended_text.proofs.Laws.{mended-key, mended-other, zeros-passed, zeros_within}
use Rattle.mended_text.proofs.put_mended.Goals as goal

pub slice_bounds-digits-count : goal.slice_bounds-digits-count
slice_bounds-digits-count c = omega (arith, c.zeros_dropped.ensures, zeros_within (number_of c.args.name) c.args.value.now)

pub slice_bounds-digits-start : goal.slice_bounds-digits-start
slice_bounds-digits-start c =
    let h : c.zeros_dropped.result ≤ length c.args.value.now = slice_bounds-digits-count c in search rules

pub put_lowered-requires : goal.put_lowered-requires
put_lowered-requires c =
    let is_key : c.eq.result ≡ eqb (number_of c.args.name) key_name = search rules in
    room_as (mended-key _ _ (eqb-true _ _ (sym is_key ∙ c.if-eq.true)) ∙ ap lowered (sym (zeros-passed c.args.name c.args.value.now _ c.zeros_dropped.ensures))) c.requires

pub returns-then-eq : goal.returns-then-eq
returns-then-eq c =
    let is_key : c.eq.result ≡ eqb (number_of c.args.name) key_name = search rules in
    put_as (ap lowered (zeros-passed c.args.name c.args.value.now _ c.zeros_dropped.ensures) ∙ sym (mended-key _ _ (eqb-true _ _ (sym is_key ∙ c.if-eq.true)))) c.put_lowered.ensures

pub put_bytes-requires : goal.put_bytes-requires
put_bytes-requires c =
    let is_key : c.eq.result ≡ eqb (number_of c.args.name) key_name = search rules in
    room_as (mended-other _ _ (eqb-false _ _ (sym is_key ∙ c.if-eq.false)) ∙ sym (zeros-passed c.args.name c.args.value.now _ c.zeros_dropped.ensures)) c.requires

pub returns-else-eq : goal.returns-else-eq
returns-else-eq c =
    let is_key : c.eq.result ≡ eqb (number_of c.args.name) key_name = search rules in
    put_as (zeros-passed c.args.name c.args.value.now _ c.zeros_dropped.ensures ∙ sym (mended-other _ _ (eqb-false _ _ (sym is_key ∙ c.if-eq.false)))) c.put_bytes.ensures
