-- `reading::read_decimal`: as `read_bounded`, after a reading in three fields. Assumes nothing.
use Rattle.std.proofs.Common.{◌∙◌, ap, Result}
use Rattle.forms.specs.Decimals.{decimal}
use Rattle.reading.specs.declared.Found.{Found}
use Rattle.reading.specs.declared.WrongAt.{WrongAt}
use Rattle.reading.specs.Reading.{answer, onward, reading_of}
use Rattle.reading.proofs.Steps.{from-good, from-wrong}
use Rattle.reading.proofs.read_decimal.Goals as goal
use Rattle.reading.proofs.read_decimal.Goals.{then-good, else-good}

pub returns : goal.returns
returns c =
    let to = λ (r : Result Found WrongAt). answer (onward (reading_of r) (decimal c.args.low c.args.high) c.args.s.now) in
    c.fields_of.ensures ∙ c.read_bounded.ensures
    ∙ elim c.if-good.branch [
      | then-good w ↦ ap to w.after-is ∙ ap answer (from-good _ _ _ w.if-good.true)
      | else-good w ↦ ap to w.after-is ∙ ap answer (from-wrong _ _ _ w.if-good.false)
    ]
