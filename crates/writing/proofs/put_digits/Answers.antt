-- `writing::put_digits`: what is to be left stays the same with each digit. Assumes nothing.
use Rattle.std.proofs.Common.{◌∙◌, ◌+◌, refl, sym, ap, arith}
use Rattle.writing.proofs.Digits.{length-ten, length_some, one-digit, more-digits}
use Rattle.writing.proofs.Puts.{put-digit, put_last}
use Rattle.writing.proofs.put_digits.Goals as goal

pub loop-i-init : goal.loop-i-init
loop-i-init c =
    let size = c.digit_count.ensures in
    (omega (arith, size, length_some c.args.n), ap (c.args.at +◌) (sym size), refl)

pub loop-i-preserved : goal.loop-i-preserved
loop-i-preserved c =
    let loop = c.loop-i in
    let more = more-digits loop.left (omega (arith, c.loop-i-test.true)) in
    let size = length-ten loop.left more in
    (omega arith, omega arith, loop.invariant.2 ∙ put-digit loop.buffer c.args.at loop.left _ more (omega arith))

-- the last one left
pub overflow_cast-buffer-2 : goal.overflow_cast-buffer-2
overflow_cast-buffer-2 c = record { fits = omega (arith, one-digit c.loop-i.left (omega (arith, c.loop-i-test.false))) }

pub overflow_add-buffer-2 : goal.overflow_add-buffer-2
overflow_add-buffer-2 c = record { fits = omega (arith, one-digit c.loop-i.left (omega (arith, c.loop-i-test.false))) }

pub returns : goal.returns
returns c =
    let loop = c.loop-i in
    let one = one-digit loop.left (omega (arith, c.loop-i-test.false)) in
    record {
      holds = sym (loop.invariant.2 ∙ put_last loop.buffer c.args.at loop.left one);
      ends = ap (c.args.at +◌) c.digit_count.ensures;
    }
