-- `case_reader::value`: as the part is read. Assumes nothing.
use Rattle.std.proofs.Common.{ap, ◌∙◌}
use Rattle.line_values.specs.Parts.{Number, number_of}
use Rattle.line_values.proofs.Digits.{value_is}
use Rattle.case_reader.proofs.value.Goals as goal

pub returns : goal.returns
returns c =
    c.unwrap_or.ensures ∙ value_is c.read_number.result ∙ ap (λ (n : Number). n.value) (c.read_number.ensures ∙ ap number_of c.part.ensures)
