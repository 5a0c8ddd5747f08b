-- A byte xor its last d bits. Assumes nothing.
use mathlib.Core.Path.{ap}
use lib.Bits.{bit_xor}
use Rattle.span.proofs.last_off.Goals as goal

pub returns : goal.returns
returns c = ap (bit_xor c.args.b) c.low_bits.ensures
