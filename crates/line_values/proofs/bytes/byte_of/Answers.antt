-- `bytes::byte_of`: each digit has its value, which is below 16. Assumes nothing.
use Rattle.std.proofs.Common.{◌*◌, ◌+◌, arith}
use Rattle.forms.proofs.Hexes.{value-small}
use Rattle.line_values.proofs.bytes.byte_of.Goals as goal

pub overflow_mul-result : goal.overflow_mul-result
overflow_mul-result c = record { fits = omega (arith, c.value_of.ensures, value-small _ c.requires.0) }

pub overflow_add-result : goal.overflow_add-result
overflow_add-result c =
    record { fits = omega (arith, c.value_of.ensures, c.value_of-2.ensures, value-small _ c.requires.0, value-small _ c.requires.1) }

pub returns : goal.returns
returns c = λ i. c.value_of.ensures i * 16 + c.value_of-2.ensures i
