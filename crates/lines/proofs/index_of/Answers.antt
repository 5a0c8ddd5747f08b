-- `lines::index_of`: what the search finds. Assumes nothing.
use Rattle.std.proofs.Common.{◌≡◌, ◌≢◌, ◌∙◌, sym, rules, tests}
use Rattle.std.proofs.lemmas.Iterator.{IsFirst-from_position, YieldsList-from_slice}
use Rattle.lines.proofs.Pieces.{index-found}
use Rattle.lines.proofs.index_of.Goals as goal

pub returns : goal.returns
returns c =
    let a = c.args in
    let found = IsFirst-from_position _ _ c.position.result (λ x. x ≡ a.b) (λ x. x ≢ a.b) c.position.ensures.ran (YieldsList-from_slice a.s.now cc)
    (λ x q k. search (rules, tests)) (λ x q k. search (rules, tests)) in
    c.unwrap_or.ensures ∙ sym (index-found a.b a.s.now c.position.result found)
