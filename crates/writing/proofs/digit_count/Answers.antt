-- `writing::digit_count`: one digit more than the logarithm. Assumes nothing.
use Rattle.std.proofs.Common.{arith}
use Rattle.writing.proofs.Digits.{length-one, digits-counted}
use Rattle.writing.proofs.digit_count.Goals as goal

pub returns-then-n-lt10 : goal.returns-then-n-lt10
returns-then-n-lt10 c = omega (arith, length-one c.args.n c.if-n-lt10.true)

pub returns : goal.returns
returns c =
    let log = c.ilog10.ensures in
    digits-counted c.ilog10.result c.args.n log.power_le log.next_power_gt
