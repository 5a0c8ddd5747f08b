-- `gf256::times_d7`: the shifts and sums are the product, by one test of 256. Assumes nothing.
use Prim.Native.Nat.{ℕ, ◌*◌, ◌/◌, ◌%◌, zero-le}
use borrow.Author.Rules.{rules}
use lib.Bits.{bit_xor}
use Rattle.laws.proofs.Tests.{agree}
use Rattle.gf256.specs.Field.{times}
use Rattle.gf256.proofs.times_d7.Goals as goal

-- what the code gives

summed : ℕ → ℕ
summed b =
    let near = bit_xor (bit_xor b (b / 2)) (b / 4) in
    let nine = bit_xor near (near / 16) in
    let third = bit_xor (bit_xor (bit_xor nine (nine * 8 % 256)) (b * 4 % 256)) (b * 64 % 256) in
    bit_xor third (third * 2 % 256)

pub returns : goal.returns
unfolding summed times
returns c = agree summed (times 0xd7) 0 256 tt c.args.b zero-le (search rules)
