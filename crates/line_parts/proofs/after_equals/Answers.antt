-- `line_parts::after_equals`: what follows the place of the `=`. Assumes nothing.
use Rattle.std.proofs.Common.{ap, ◌∙◌, suc, drop, List, ℕ, refl, arith, add-one}
use denote.Ref.{Bor}
use Rattle.lines.specs.Line.{index_of}
use Rattle.lines.proofs.Pieces.{index-within}
use Rattle.line_parts.specs.Line.{equals, after_equals}
use Rattle.line_parts.proofs.Counts.{part-from}
use Rattle.line_parts.proofs.after_equals.Goals as goal

pub overflow_add-n : goal.overflow_add-n
overflow_add-n c = record { fits = omega (arith, c.index_of-n.ensures, index-within equals c.bare-whole.result.now) }

pub returns : goal.returns
unfolding after_equals
returns c =
    ap (λ (r : Bor (List ℕ)). r.now) c.unwrap_or.ensures
    ∙ part-from c.bare-whole.result.now _ c.get.result _ refl c.get.ensures.lookup
    ∙ ap (λ (k : ℕ). drop k c.bare-whole.result.now) (add-one c.index_of-n.result)
    ∙ (let place = c.index_of-n.ensures ∙ ap (index_of equals) c.bare-whole.ensures in λ i. drop (suc (place i)) (c.bare-whole.ensures i))
