-- `record_reader::read_key`: what is to be answered stays the same with each byte. Assumes nothing.
use Rattle.std.proofs.Common.{◌∙◌, ◌<◌, refl, sym, ap, arith, length-set}
use Rattle.forms.specs.Hexes.{byte}
use Rattle.reading.specs.Reading.{onward, good_to, wrong_at, reading_of}
use Rattle.record_reader.specs.Lines.{key_form, key_answer}
use Rattle.forms.proofs.Hexes.{byte-means}
use Rattle.record_reader.proofs.Keys.{key-passed, key_more, key-all}
use Rattle.reading.proofs.Steps.{on_then, on_value, step-done}
use Rattle.record_reader.proofs.read_key.Goals as goal

pub loop-b-init : goal.loop-b-init
unfolding key_form
loop-b-init c = (refl, refl)

pub returns-in_err-read : goal.returns-in_err-read
unfolding onward
returns-in_err-read c =
    let loop = c.loop-b in
    key-passed _ c.from_residual.ensures.1
    ∙ sym (ap key_answer (loop.invariant.1
    ∙ key_more loop.b-items loop.b-index (reading_of loop.last) c.args.s.now loop.invariant.0 c.loop-b-test.true {a = wrong_at c.in_err-read.field-0.0.place} c.in_err-read.ensures))

pub overflow_cast-b : goal.overflow_cast-b
overflow_cast-b c =
    let read = c.in_ok-read.read in
    record {
      fits = omega (arith, on_value (λ v. v < 256) _ byte _ {a = good_to read.value read.place} c.in_ok-read.ensures (omega arith) (λ v w h. (byte-means.only v w h).0));
    }

pub loop-b-preserved : goal.loop-b-preserved
loop-b-preserved c =
    let loop = c.loop-b in
    let read = c.in_ok-read.read in (
      simp length-set loop.invariant.0,
      loop.invariant.1
          ∙ key_more loop.b-items loop.b-index (reading_of loop.last) c.args.s.now loop.invariant.0 c.loop-b-test.true {a = good_to read.value read.place} c.in_ok-read.ensures,
    )

pub returns-in_err-end : goal.returns-in_err-end
unfolding onward
returns-in_err-end c =
    let loop = c.loop-b in
    key-passed _ c.from_residual-in_err-end.ensures.1
    ∙ sym (ap key_answer (loop.invariant.1
    ∙ key-all loop.b-items loop.b-index (reading_of loop.last) c.args.s.now loop.invariant.0 c.loop-b-test.false
    ∙ on_then (reading_of loop.last) _ _ c.args.s.now c.in_err-end.ensures))

pub returns : goal.returns
unfolding onward
returns c =
    let loop = c.loop-b in
    sym (ap key_answer (loop.invariant.1
    ∙ key-all loop.b-items loop.b-index (reading_of loop.last) c.args.s.now loop.invariant.0 c.loop-b-test.false
    ∙ on_then (reading_of loop.last) _ _ c.args.s.now c.in_ok-end.ensures ∙ step-done _ _ _))
