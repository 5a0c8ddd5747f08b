-- `hex_reading::read_byte`: one digit after another. Assumes nothing.
use Rattle.std.proofs.Common.{◌∙◌, ◌<◌, sym, ap, arith}
use Rattle.forms.specs.Hexes.{half_byte, byte}
use Rattle.reading.specs.Reading.{answer, onward, good_to, reading_of}
use Rattle.forms.proofs.Hexes.{half-small}
use Rattle.reading.proofs.Steps.{on_then, on_value, passed-on, step-done}
use Rattle.hex_reading.proofs.read_byte.Goals as goal

pub returns-in_err-high : goal.returns-in_err-high
unfolding byte onward
returns-in_err-high c =
    passed-on _ c.from_residual.ensures.1
    ∙ sym (ap answer (on_then (reading_of c.args.before) half_byte _ c.args.s.now c.in_err-high.ensures))

pub returns-in_err-low : goal.returns-in_err-low
unfolding byte onward
returns-in_err-low c =
    let high = c.in_ok-high.high in
    passed-on _ c.from_residual-in_err-low.ensures.1
    ∙ sym (ap answer (on_then (reading_of c.args.before) half_byte _ c.args.s.now c.in_ok-high.ensures
    ∙ on_then (good_to high.value high.place) half_byte _ c.args.s.now c.in_err-low.ensures))

pub overflow_mul-result : goal.overflow_mul-result
overflow_mul-result c =
    let high = c.in_ok-high.high in
    record {
      fits = omega (arith, on_value (λ v. v < 16) _ half_byte _ {a = good_to high.value high.place} c.in_ok-high.ensures (omega arith) half-small);
    }

pub overflow_add-result : goal.overflow_add-result
overflow_add-result c =
    let high = c.in_ok-high.high in
    let low = c.in_ok-low.low in
    record {
      fits =
          omega (
            arith,
            on_value (λ v. v < 16) _ half_byte _ {a = good_to high.value high.place} c.in_ok-high.ensures (omega arith) half-small,
            on_value (λ v. v < 16) _ half_byte _ {a = good_to low.value low.place} c.in_ok-low.ensures (omega arith) half-small,
          );
    }

pub returns : goal.returns
unfolding byte onward
returns c =
    let high = c.in_ok-high.high in
    sym (ap answer (on_then (reading_of c.args.before) half_byte _ c.args.s.now c.in_ok-high.ensures
    ∙ on_then (good_to high.value high.place) half_byte _ c.args.s.now c.in_ok-low.ensures ∙ step-done _ _ _))
