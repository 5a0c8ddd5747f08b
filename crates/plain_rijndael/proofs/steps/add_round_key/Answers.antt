-- `plain_rijndael::steps::add_round_key`: cell by cell; a byte of a word is the byte that is held. Assumes nothing.
use mathlib.Core.Path.{ap}
use Prim.Native.Nat.{◌+◌, ◌-◌, ◌*◌, ◌<◌}
use native.Mathlib.Omega.{arith}
use lib.Bits.{bit_xor}
use Rattle.round_steps.specs.Steps.{add_round_key}
use Rattle.laws.proofs.States.{state-shape}
use Rattle.laws.proofs.InRows.{in-rows-none, in-row-none, in-row-more, in-rows-more, in-rows-all}
use Rattle.laws.specs.Lists.{cell}
use Rattle.plain_schedule.proofs.Words.{words-bytes, word_byte}
use Rattle.plain_rijndael.proofs.steps.add_round_key.Goals as goal

pub loop-c-preserved : goal.loop-c-preserved
loop-c-preserved c =
    let a = c.args in
    let r = c.loop-r.r in
    let small = words-bytes a.w c.well_formed.1.0 in
    let l = c.loop-c-test.true in
    let h : 8 * a.n + c.loop-c.c < 120 = omega (arith, c.requires, l) in
    in-row-more c.loop-c.invariant l _ (ap (bit_xor (cell a.s r c.loop-c.c)) (word_byte a.w small (8 * a.n + c.loop-c.c) r h c.loop-c.invariant.0))

pub loop-r-init : goal.loop-r-init
unfolding add_round_key
loop-r-init c = in-rows-none (state-shape c.well_formed.0)

pub loop-c-init : goal.loop-c-init
unfolding add_round_key
loop-c-init c = in-row-none c.loop-r.invariant c.loop-r-test.true

pub loop-r-preserved : goal.loop-r-preserved
unfolding add_round_key
loop-r-preserved c = in-rows-more c.loop-c.invariant c.loop-c-test.false

pub returns : goal.returns
unfolding add_round_key
returns c = in-rows-all c.loop-r.invariant c.loop-r-test.false
