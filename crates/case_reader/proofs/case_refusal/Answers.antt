-- `case_reader::case_refusal`: the refusal by what was measured and read. Assumes nothing.
use mathlib.Core.List.{List}
use mathlib.Core.Path.{◌≡◌, sym, ◌∙◌}
use Prim.Native.Nat.{ℕ, ◌/◌}
use lib.ListN.{length}
use Rattle.bench.specs.Bench.{keyed_refusal}
use Rattle.lines.specs.Line.{part}
use Rattle.line_values.specs.Parts.{bytes_of}
use Rattle.case_reader.specs.Case.{last_part, case_of}
use Rattle.line_values.proofs.Hexes.{length-bytes}
use Rattle.case_reader.proofs.case_refusal.Goals as goal

-- a size that was measured

sized : (s : List ℕ) {n : ℕ} → n ≡ length s / 2 → n ≡ length (bytes_of s)
sized s e = e ∙ sym (length-bytes s)

pub returns : goal.returns
unfolding case_of
returns c =
    let line = c.args.line.now in
    c.keyed_refusal.ensures
    ∙ (λ i.
    keyed_refusal (c.value.ensures i) (sized (part 1 line) c.size.ensures i) (sized (part 2 line) c.size-2.ensures i)
    (sized (last_part line) c.buffer_size.ensures i) (c.value-2.ensures i) (c.value-3.ensures i) (c.value-4.ensures i))
