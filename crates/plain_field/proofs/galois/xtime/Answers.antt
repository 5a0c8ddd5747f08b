-- `plain_field::galois::xtime`: a shift; above 127 by one test of 128. Assumes nothing.
use Prim.Native.Nat.{◌-◌, ◌*◌}
use borrow.Author.Rules.{rules}
use borrow.Author.Tests.{lt-ltb}
use lib.Bits.{bit_xor}
use Rattle.gf256.specs.Field.{times_z}
use Rattle.laws.proofs.Tests.{agree}
use Rattle.plain_field.proofs.galois.xtime.Goals as goal

pub returns-then-b-lt128 : goal.returns-then-b-lt128
returns-then-b-lt128 c = rw (lt-ltb _ 128 c.if-b-lt128.true)

pub returns : goal.returns
returns c = agree (λ b. bit_xor ((b - 128) * 2) 0x1b) times_z 128 128 tt c.args.b c.if-b-lt128.false (search rules)
