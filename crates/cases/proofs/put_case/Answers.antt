-- `cases::put_case`: each answer by the tests that led to it. Assumes nothing.
use mathlib.Core.Path.{sym, ap, ◌∙◌}
use native.Mathlib.Omega.{arith}
use Rattle.refusals.proofs.Judged.{number-above_0}
use Rattle.writing.proofs.Puts.{put-length, put_as}
use Rattle.case_reader.specs.Case.{Accepted}
use Rattle.cases.specs.Answer.{refused_text}
use Rattle.cases.proofs.Texts.{text-unreadable, text-refused, text-accepted, accepted-fits, refused-fits}
use Rattle.cases.proofs.put_case.Goals as goal

pub returns-then-not-is_readable : goal.returns-then-not-is_readable
returns-then-not-is_readable c =
    let put = c.put_bytes.ensures in
    (omega (arith, put.ends), put_as (text-unreadable _ (sym c.is_readable.ensures ∙ c.if-not-is_readable.true)) put)

pub put_line-requires : goal.put_line-requires
put_line-requires c = record { fits = omega (arith, refused-fits c.number.result (omega arith), c.requires) }

pub returns-in-Err : goal.returns-in-Err
returns-in-Err c =
    let put = c.put_line.ensures in
    let refused = c.number.ensures ∙ c.in-Err.ensures in
    let readable = sym c.is_readable.ensures ∙ c.if-not-is_readable.false in
    let above = number-above_0 c.in-Err.refusal in (
      omega (arith, put.ends, refused-fits c.number.result (omega arith)),
      put_as (ap refused_text refused ∙ text-refused _ readable (λ z. omega (arith, c.in-Err.ensures, z))) put,
    )

pub put_accepted-requires : goal.put_accepted-requires
put_accepted-requires c =
    let readable = sym c.is_readable.ensures ∙ c.if-not-is_readable.false in
    (record { readable = readable; passed = sym c.in-Ok.ensures }, c.requires)

pub returns-in-Ok : goal.returns-in-Ok
returns-in-Ok c =
    let a : Accepted c.args.line.now = record { readable = sym c.is_readable.ensures ∙ c.if-not-is_readable.false; passed = sym c.in-Ok.ensures } in
    let put = c.put_accepted.ensures in
    (omega (arith, put.ends, accepted-fits a), put_as (text-accepted _ a) put)

pub shape_of-out-then-not-is_readable : goal.shape_of-out-then-not-is_readable
shape_of-out-then-not-is_readable c = put-length (returns-then-not-is_readable c).1

pub shape_of-out-in-Err : goal.shape_of-out-in-Err
shape_of-out-in-Err c = put-length (returns-in-Err c).1

pub shape_of-out-in-Ok : goal.shape_of-out-in-Ok
shape_of-out-in-Ok c = put-length (returns-in-Ok c).1
