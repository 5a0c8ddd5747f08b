-- `bytes::value_of`: a digit has its value. Assumes nothing.
use Rattle.std.proofs.Common.{◌∙◌}
use Rattle.std.specs.Option.{unwrap_or}
use Rattle.line_values.proofs.Hexes.{value-is}
use Rattle.line_values.proofs.bytes.value_of.Goals as goal

pub returns : goal.returns
returns c =
    let value = value-is _ c.hex_value.result c.hex_value.ensures.value c.requires in
    c.unwrap_or.ensures ∙ (λ i. unwrap_or (value i) 0)
