-- `record_reader::starts_form`: what stands past the end of a text is no f. Assumes nothing.
use Rattle.std.proofs.Common.{◌≡◌, ◌∙◌, refl, sym, ℕ, eqb, List, [], ◌∷◌}
use Rattle.std.specs.List.{starts_with}
use mathlib.Core.Logic.{⊎_elim}
use borrow.Author.Tests.{eq-eqb, ne_eqb}
use Rattle.laws.proofs.Cases.{eq-or-ne}
use Rattle.record_reader.specs.Record.{starts_form}
use Rattle.record_reader.proofs.starts_form.Goals as goal

begins : (s : List ℕ) → starts_with eqb s (102 ∷ []) ≡ starts_form s
unfolding starts_form
begins [] = refl
begins (b ∷ s) =
    ⊎_elim (λ e. rw (eq-eqb b 102 e, eq-eqb 102 b (sym e))) (λ n. rw (ne_eqb b 102 n, ne_eqb 102 b (λ e. n (sym e)))) (eq-or-ne b 102)

pub returns : goal.returns
returns c = c.starts_with.ensures.value ∙ begins c.args.text.now
