-- `call_log::feed`: with each byte it is no longer left. Assumes nothing.
use mathlib.Core.Path.{refl, sym, ap, ◌∙◌}
use Prim.Native.Nat.{◌+◌}
use borrow.Author.Rules.{rules}
use lib.ListN.{length, get_or, drop}
use Rattle.call_log.specs.Fed.{Fed, fed_to, fed}
use Rattle.call_log.proofs.Feeds.{fed-next, fed-over}
use Rattle.call_log.proofs.Sizes.{byte-size}
use Rattle.call_log.proofs.feed.Goals as goal

pub loop-b-init : goal.loop-b-init
loop-b-init c = (refl, refl)

pub loop-b-preserved : goal.loop-b-preserved
loop-b-preserved c =
    let e = c.feed_byte-now.ensures in (
      ap (λ (f : Fed). length f.figures) e ∙ (byte-size (fed_to c.loop-b.now c.loop-b.figures) (get_or c.args.block.now c.loop-b.b-index 0) ∙ c.loop-b.invariant.0),
      c.loop-b.invariant.1 ∙ (fed-next (fed_to c.loop-b.now c.loop-b.figures) c.args.block.now c.loop-b.b-index (search rules) ∙ ap (λ (f : Fed). fed f (drop (c.loop-b.b-index + 1) c.args.block.now)) (sym e)),
    )

pub returns : goal.returns
returns c =
    sym (c.loop-b.invariant.1 ∙ fed-over (fed_to c.loop-b.now c.loop-b.figures) c.args.block.now c.loop-b.b-index (search rules))
