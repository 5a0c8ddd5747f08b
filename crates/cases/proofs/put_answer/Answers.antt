-- `cases::put_answer`: the answer to the line before the first LF. Assumes nothing.
use mathlib.Core.Path.{sym, ap, ◌∙◌}
use Prim.Native.Nat.{ℕ}
use native.Mathlib.Omega.{arith}
use lib.ListN.{take}
use lib.Seq.{length-take-le}
use Rattle.writing.specs.Text.{lf}
use Rattle.writing.proofs.Puts.{put-length, put_as}
use Rattle.cases.specs.Answer.{case_text}
use Rattle.lines.proofs.Pieces.{index-within}
use Rattle.cases.proofs.Texts.{text-cut, text-line}
use Rattle.cases.proofs.put_answer.Goals as goal

pub returns-then-end-s : goal.returns-then-end-s
returns-then-end-s c =
    let put = c.put_bytes.ensures in
    (omega (arith, put.ends), put_as (text-cut c.args.s.now (sym c.index_of-end.ensures ∙ c.if-end-s.true)) put)

pub slice_bounds-put_case-end : goal.slice_bounds-put_case-end
slice_bounds-put_case-end c =
    let s = c.args.s.now in
    sym (length-take-le _ s (omega (arith, c.index_of-end.ensures, index-within lf s)))

pub returns : goal.returns
returns c =
    let put = c.put_case.ensures in
    let s = c.args.s.now in
    let e = c.index_of-end.ensures in
    (put.0, put_as (ap (λ (n : ℕ). case_text (take n s)) e ∙ text-line s (λ z. c.if-end-s.false (e ∙ z))) put.1)

pub shape_of-out-then-end-s : goal.shape_of-out-then-end-s
shape_of-out-then-end-s c = put-length (returns-then-end-s c).1

pub shape_of-out : goal.shape_of-out
shape_of-out c = put-length (returns c).1
