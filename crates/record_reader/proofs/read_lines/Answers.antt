-- `record_reader::read_lines`: line after line is the record. Assumes nothing.
use Rattle.std.proofs.Common.{◌∙◌, refl, sym, arith}
use Rattle.reading.specs.Reading.{onward}
use Rattle.record_reader.proofs.Records.{outcome-passed, small-read, lines-read}
use Rattle.record_reader.proofs.read_lines.Goals as goal

-- where a line is wrong, so are those after it

pub returns-in_err-number : goal.returns-in_err-number
unfolding onward
returns-in_err-number c =
    outcome-passed _ c.from_residual.ensures.1
    ∙ sym (lines-read c.args.two c.args.text.now c.read_form.ensures c.in_err-number.ensures refl refl refl refl refl refl refl refl refl refl refl)

pub returns-in_err-version : goal.returns-in_err-version
unfolding onward
returns-in_err-version c =
    outcome-passed _ c.from_residual-in_err-version.ensures.1
    ∙ sym (lines-read c.args.two c.args.text.now c.read_form.ensures c.in_ok-number.ensures c.in_err-version.ensures refl refl refl refl refl refl refl refl refl refl)

pub returns-in_err-algorithm : goal.returns-in_err-algorithm
unfolding onward
returns-in_err-algorithm c =
    outcome-passed _ c.from_residual-in_err-algorithm.ensures.1
    ∙ sym (lines-read c.args.two c.args.text.now c.read_form.ensures c.in_ok-number.ensures c.in_ok-version.ensures c.read_literal.ensures c.in_err-algorithm.ensures refl refl refl refl refl refl refl refl)

pub returns-in_err-usage : goal.returns-in_err-usage
unfolding onward
returns-in_err-usage c =
    outcome-passed _ c.from_residual-in_err-usage.ensures.1
    ∙ sym (lines-read c.args.two c.args.text.now c.read_form.ensures c.in_ok-number.ensures c.in_ok-version.ensures c.read_literal.ensures c.in_ok-algorithm.ensures c.read_literal-2.ensures c.in_err-usage.ensures refl refl refl refl refl refl)

pub returns-in_err-side : goal.returns-in_err-side
unfolding onward
returns-in_err-side c =
    outcome-passed _ c.from_residual-in_err-side.ensures.1
    ∙ sym (lines-read c.args.two c.args.text.now c.read_form.ensures c.in_ok-number.ensures c.in_ok-version.ensures c.read_literal.ensures c.in_ok-algorithm.ensures c.read_literal-2.ensures c.in_ok-usage.ensures c.in_err-side.ensures refl refl refl refl refl)

pub returns-in_err-place : goal.returns-in_err-place
unfolding onward
returns-in_err-place c =
    outcome-passed _ c.from_residual-in_err-place.ensures.1
    ∙ sym (lines-read c.args.two c.args.text.now c.read_form.ensures c.in_ok-number.ensures c.in_ok-version.ensures c.read_literal.ensures c.in_ok-algorithm.ensures c.read_literal-2.ensures c.in_ok-usage.ensures c.in_ok-side.ensures c.in_err-place.ensures refl refl refl refl)

pub returns-in_err-mcc : goal.returns-in_err-mcc
unfolding onward
returns-in_err-mcc c =
    outcome-passed _ c.from_residual-in_err-mcc.ensures.1
    ∙ sym (lines-read c.args.two c.args.text.now c.read_form.ensures c.in_ok-number.ensures c.in_ok-version.ensures c.read_literal.ensures c.in_ok-algorithm.ensures c.read_literal-2.ensures c.in_ok-usage.ensures c.in_ok-side.ensures c.in_ok-place.ensures c.in_err-mcc.ensures refl refl refl)

pub returns-in_err-mnc : goal.returns-in_err-mnc
unfolding onward
returns-in_err-mnc c =
    outcome-passed _ c.from_residual-in_err-mnc.ensures.1
    ∙ sym (lines-read c.args.two c.args.text.now c.read_form.ensures c.in_ok-number.ensures c.in_ok-version.ensures c.read_literal.ensures c.in_ok-algorithm.ensures c.read_literal-2.ensures c.in_ok-usage.ensures c.in_ok-side.ensures c.in_ok-place.ensures c.in_ok-mcc.ensures c.in_err-mnc.ensures refl refl)

pub returns-in_err-end : goal.returns-in_err-end
unfolding onward
returns-in_err-end c =
    outcome-passed _ c.from_residual-in_err-end.ensures.1
    ∙ sym (lines-read c.args.two c.args.text.now c.read_form.ensures c.in_ok-number.ensures c.in_ok-version.ensures c.read_literal.ensures c.in_ok-algorithm.ensures c.read_literal-2.ensures c.in_ok-usage.ensures c.in_ok-side.ensures c.in_ok-place.ensures c.in_ok-mcc.ensures c.in_ok-mnc.ensures c.read_literal-3.ensures c.in_err-end.ensures)

-- the values of a record that is read fit their types

pub overflow_cast-result : goal.overflow_cast-result
overflow_cast-result c =
    let read = lines-read c.args.two c.args.text.now c.read_form.ensures c.in_ok-number.ensures c.in_ok-version.ensures c.read_literal.ensures c.in_ok-algorithm.ensures c.read_literal-2.ensures c.in_ok-usage.ensures c.in_ok-side.ensures c.in_ok-place.ensures c.in_ok-mcc.ensures c.in_ok-mnc.ensures c.read_literal-3.ensures c.in_ok-end.ensures in
    let few = small-read c.args.two c.args.text.now _ _ read in
    record { fits = omega (arith, few.version) }

pub overflow_cast-result-2 : goal.overflow_cast-result-2
overflow_cast-result-2 c =
    let read = lines-read c.args.two c.args.text.now c.read_form.ensures c.in_ok-number.ensures c.in_ok-version.ensures c.read_literal.ensures c.in_ok-algorithm.ensures c.read_literal-2.ensures c.in_ok-usage.ensures c.in_ok-side.ensures c.in_ok-place.ensures c.in_ok-mcc.ensures c.in_ok-mnc.ensures c.read_literal-3.ensures c.in_ok-end.ensures in
    let few = small-read c.args.two c.args.text.now _ _ read in
    record { fits = omega (arith, few.algorithm) }

pub overflow_cast-result-3 : goal.overflow_cast-result-3
overflow_cast-result-3 c =
    let read = lines-read c.args.two c.args.text.now c.read_form.ensures c.in_ok-number.ensures c.in_ok-version.ensures c.read_literal.ensures c.in_ok-algorithm.ensures c.read_literal-2.ensures c.in_ok-usage.ensures c.in_ok-side.ensures c.in_ok-place.ensures c.in_ok-mcc.ensures c.in_ok-mnc.ensures c.read_literal-3.ensures c.in_ok-end.ensures in
    let few = small-read c.args.two c.args.text.now _ _ read in
    record { fits = omega (arith, few.usage) }

pub overflow_cast-result-4 : goal.overflow_cast-result-4
overflow_cast-result-4 c =
    let read = lines-read c.args.two c.args.text.now c.read_form.ensures c.in_ok-number.ensures c.in_ok-version.ensures c.read_literal.ensures c.in_ok-algorithm.ensures c.read_literal-2.ensures c.in_ok-usage.ensures c.in_ok-side.ensures c.in_ok-place.ensures c.in_ok-mcc.ensures c.in_ok-mnc.ensures c.read_literal-3.ensures c.in_ok-end.ensures in
    let few = small-read c.args.two c.args.text.now _ _ read in
    record { fits = omega (arith, few.side) }

pub overflow_cast-result-5 : goal.overflow_cast-result-5
overflow_cast-result-5 c =
    let read = lines-read c.args.two c.args.text.now c.read_form.ensures c.in_ok-number.ensures c.in_ok-version.ensures c.read_literal.ensures c.in_ok-algorithm.ensures c.read_literal-2.ensures c.in_ok-usage.ensures c.in_ok-side.ensures c.in_ok-place.ensures c.in_ok-mcc.ensures c.in_ok-mnc.ensures c.read_literal-3.ensures c.in_ok-end.ensures in
    let few = small-read c.args.two c.args.text.now _ _ read in
    record { fits = omega (arith, few.place) }

pub overflow_cast-result-6 : goal.overflow_cast-result-6
overflow_cast-result-6 c =
    let read = lines-read c.args.two c.args.text.now c.read_form.ensures c.in_ok-number.ensures c.in_ok-version.ensures c.read_literal.ensures c.in_ok-algorithm.ensures c.read_literal-2.ensures c.in_ok-usage.ensures c.in_ok-side.ensures c.in_ok-place.ensures c.in_ok-mcc.ensures c.in_ok-mnc.ensures c.read_literal-3.ensures c.in_ok-end.ensures in
    let few = small-read c.args.two c.args.text.now _ _ read in
    record { fits = omega (arith, few.mcc) }

pub overflow_cast-result-7 : goal.overflow_cast-result-7
overflow_cast-result-7 c =
    let read = lines-read c.args.two c.args.text.now c.read_form.ensures c.in_ok-number.ensures c.in_ok-version.ensures c.read_literal.ensures c.in_ok-algorithm.ensures c.read_literal-2.ensures c.in_ok-usage.ensures c.in_ok-side.ensures c.in_ok-place.ensures c.in_ok-mcc.ensures c.in_ok-mnc.ensures c.read_literal-3.ensures c.in_ok-end.ensures in
    let few = small-read c.args.two c.args.text.now _ _ read in
    record { fits = omega (arith, few.mnc) }

pub returns : goal.returns
returns c = sym (lines-read c.args.two c.args.text.now c.read_form.ensures c.in_ok-number.ensures c.in_ok-version.ensures c.read_literal.ensures c.in_ok-algorithm.ensures c.read_literal-2.ensures c.in_ok-usage.ensures c.in_ok-side.ensures c.in_ok-place.ensures c.in_ok-mcc.ensures c.in_ok-mnc.ensures c.read_literal-3.ensures c.in_ok-end.ensures)
