-- `keystream::xor_run`: `done` bits are xored, and each turn adds a piece of one block. Assumes nothing.
use mathlib.Core.Path.{◌≡◌, refl, sym, ap, subst, ◌∙◌}
use Prim.Native.Nat.{ℕ, ◌<◌, ◌≤◌, ◌-◌, ◌+◌, ◌/◌, ◌%◌, min}
use native.Mathlib.Nat.{add_assoc}
use native.Mathlib.Omega.{arith}
use borrow.Author.Rules.{rules}
use lib.ListN.{length}
use Rattle.laws.specs.Bits.{bit_at}
use Rattle.span.specs.Span.{xored}
use Rattle.span.proofs.Laws.{xored-none, length-xored}
use Rattle.span.proofs.Stream.{xored-stretch}
use Rattle.block_counts.proofs.Blocks.{after_none}
use Rattle.tea.specs.Keystream.{block_of}
use Rattle.keystream.specs.declared.Work.{Work}
use Rattle.keystream.specs.Work.{Held}
use Rattle.keystream.proofs.Order.{at-schedules, at_next, at-blocks, at-few, held_at, next-later, made-later, next_small}
use Rattle.keystream.proofs.xor_run.Goals as goal

pub loop-done-init : goal.loop-done-init
loop-done-init c =
    let a = c.args in (
      search rules,
      search rules,
      sym (xored-none _ _ _ _ (λ q. omega (arith, c.slice_known-1.given q))),
      search rules,
      sym (after_none a.work.next a.p.skip 0 refl),
      omega arith,
      c.requires.3,
      c.requires.4,
    )

pub reach-made-requires : goal.reach-made-requires
reach-made-requires c =
    let some : 0 < c.min-some.result =
    omega (arith, c.min-some.ensures)
    in
    let in_block : (c.args.p.skip + c.loop-done.done) % 256 + c.min-some.result ≤ 256 =
    omega (arith, c.min-some.ensures)
    in
    let early : c.args.work.next ≤ c.args.p.skip / 256 + 1 =
    c.requires.2 (omega arith)
    in
    let reachable : c.loop-done.made.next ≤ (c.args.p.skip + c.loop-done.done) / 256 + 1 =
    let a = c.args in
    let loop = c.loop-done in
    next_small a.work.next a.p.skip loop.done c.min-some.result in_block some loop.made.next loop.invariant.4 early
    in
    let pre = c.requires in
    let loop = c.loop-done in
    let streamed = pre.1.streamed in
    (reachable, loop.invariant.6, omega (arith, streamed), loop.invariant.7)

pub overflow_add-start : goal.overflow_add-start
overflow_add-start c =
    let inside = c.requires.1.inside in
    record { fits = omega (arith, inside, c.loop-done.invariant.0) }

pub xor_block-requires : goal.xor_block-requires
xor_block-requires c =
    let in_block : (c.args.p.skip + c.loop-done.done) % 256 + c.min-some.result ≤ 256 =
    omega (arith, c.min-some.ensures)
    in
    let inside = c.requires.1.inside in
    let loop = c.loop-done in
    (omega (arith, inside, loop.invariant.0, loop.invariant.1, c.min-some.ensures), in_block)

-- the blocks of the run so far, and then one more or none

later : (first blocks next next' m j : ℕ) → blocks ≡ first + (next - m) → next' ≡ j + 1 → next - m + min 1 (j + 1 - next) ≡ j + 1 - m
    → blocks + min 1 (j + 1 - next) ≡ first + (next' - m)
later first blocks next next' m j e n h = rw (e, n, ← h) (add_assoc first (next - m) (min 1 (j + 1 - next)))

pub loop-done-preserved : goal.loop-done-preserved
loop-done-preserved c =
    let some : 0 < c.min-some.result =
    omega (arith, c.min-some.ensures)
    in
    let in_block : (c.args.p.skip + c.loop-done.done) % 256 + c.min-some.result ≤ 256 =
    omega (arith, c.min-some.ensures)
    in
    let early : c.args.work.next ≤ c.args.p.skip / 256 + 1 =
    c.requires.2 (omega arith)
    in
    let reachable : c.loop-done.made.next ≤ (c.args.p.skip + c.loop-done.done) / 256 + 1 =
    let a = c.args in
    let loop = c.loop-done in
    next_small a.work.next a.p.skip loop.done c.min-some.result in_block some loop.made.next loop.invariant.4 early
    in
    let a = c.args in
    let loop = c.loop-done in
    let p = c.min-some.result in
    let j = (c.args.p.skip + c.loop-done.done) / 256 in
    let e = c.reach-made.ensures.0 in
    let h = in_block in
    let next = ap (λ (r : Work). r.next) e ∙ at_next loop.made j in (
      omega (arith, c.min-some.ensures, loop.invariant.0),
      ap length c.xor_block.ensures ∙ length-xored _ _ _ _ _ ∙ loop.invariant.1,
      c.xor_block.ensures
          ∙ (λ i. xored (loop.invariant.2 i) (bit_at (held_at a.engine.now.mode.now j _ c.reach-made.ensures.1 i)) (a.p.start + loop.done) ((c.args.p.skip + c.loop-done.done) % 256) p)
          ∙ xored-stretch (block_of a.engine.now.mode.now) a.buf.now a.p.start a.p.skip loop.done p h,
      ap (λ (r : Work). r.schedules) e ∙ at-schedules loop.made j ∙ loop.invariant.3,
      next ∙ next-later a.work.next a.p.skip loop.done p h some,
      ap (λ (r : Work). r.blocks) e
          ∙ at-blocks loop.made j reachable
          ∙ later a.work.blocks loop.made.blocks loop.made.next c.reach-made.result.next _ _ loop.invariant.5 next
          (made-later a.work.next a.p.skip loop.done p h some loop.made.next loop.invariant.4 early),
      subst (λ (r : Work). r.blocks ≤ r.next) (sym e) (at-few loop.made j loop.invariant.6 reachable),
      subst (λ (m : ℕ). Held a.engine.now.mode.now m c.reach-made.new.kept) (sym next) c.reach-made.ensures.1,
    )

pub returns : goal.returns
returns c =
    let loop = c.loop-done in
    let a = c.args in
    let all : loop.done ≡ a.p.n = omega arith in
    (rw all at loop.invariant.2, loop.invariant.3, rw all at loop.invariant.4, loop.invariant.5, loop.invariant.6, loop.invariant.7)
