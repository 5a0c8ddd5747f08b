-- `case_reader::is_number`: as the part is read. Assumes nothing.
use Rattle.std.proofs.Common.{ap, ◌∙◌}
use Rattle.line_values.specs.Parts.{Number, number_of}
use Rattle.line_values.proofs.Digits.{good-is}
use Rattle.case_reader.proofs.is_number.Goals as goal

pub returns : goal.returns
returns c =
    c.is_some.ensures ∙ good-is c.read_number.result ∙ ap (λ (n : Number). n.good) (c.read_number.ensures ∙ ap number_of c.part.ensures)
