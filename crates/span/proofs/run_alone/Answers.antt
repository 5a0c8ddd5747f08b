-- The framed block, zeroed before the run and after it. Assumes nothing.
use mathlib.Core.Path.{ap, ◌∙◌}
use mathlib.Core.List.{List}
use Prim.Native.Nat.{ℕ, ◌+◌}
use Rattle.span.specs.Span.{zeroed}
use Rattle.span.proofs.run_alone.Goals as goal

pub returns : goal.returns
returns c =
    let a = c.args in
    c.clear_eight-2.ensures
    ∙ ap (λ (l : List ℕ). zeroed l (a.from + a.n + 8) 8) (c.clear_eight.ensures ∙ ap (λ (l : List ℕ). zeroed l a.from 8) c.padded-z.ensures)
