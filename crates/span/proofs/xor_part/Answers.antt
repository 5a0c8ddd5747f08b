-- The bits that the loop meets beside the run are 0, so that the run alone changes. Assumes nothing.
use mathlib.Core.Path.{ap, ◌∙◌}
use mathlib.Core.List.{List}
use Prim.Native.Nat.{ℕ, ◌+◌, ◌-◌, ◌*◌, ◌/◌, ◌%◌}
use native.Mathlib.Omega.{arith}
use borrow.Author.Rules.{rules}
use Rattle.laws.specs.Bits.{bit_at}
use Rattle.span.specs.Span.{xored}
use Rattle.span.proofs.Alone.{run_only}
use Rattle.span.proofs.xor_part.Goals as goal

pub returns : goal.returns
returns c =
    let a = c.args in
    let e = a.from + 8 - a.at in
    let first = 8 * (e / 8) + e % 8 in
    let bits = 8 * ((a.at + a.n + 7) / 8) in
    c.xor_shifted.ensures
    ∙ ap (λ (z : List ℕ). xored a.s.now (bit_at z) 0 first bits) c.run_alone-z.ensures
    ∙ run_only a.k a.from a.n (search rules) (omega arith) a.s.now a.at first bits (omega arith) (omega arith) (omega arith) (omega arith)
