-- `span::clear_front`: whole bytes become 0, and then the first bits of one more. Assumes nothing.
use mathlib.Core.Path.{◌≡◌, ap, ◌∙◌}
use mathlib.Core.List.{List, ◌++◌}
use Prim.Native.Nat.{ℕ, ◌+◌, ◌*◌, ◌/◌, ◌%◌, ◌≤◌}
use native.Mathlib.Omega.{arith}
use lib.ListN.{length, drop, replicate}
use Rattle.std.proofs.lemmas.List.{length-take-le}
use Rattle.span.specs.Span.{zeroed}
use Rattle.span.proofs.Laws.{Bytes}
use Rattle.span.proofs.Stores.{cleared_more, front_zeroed}
use Rattle.span.proofs.clear_front.Goals as goal

-- what stands after the whole bytes, whatever the list that was filled is called
filled : (old front : List ℕ) (n : ℕ) → Bytes old → n ≤ 8 * length old → front ≡ replicate (n / 8) 0 → front ++ drop (n / 8) old ≡ zeroed old 0 (8 * (n / 8))
filled old front n bytes h e = ap (λ (l : List ℕ). l ++ drop (n / 8) old) e ∙ front_zeroed old (n / 8) bytes (omega arith)

pub returns-then-o-eq0 : goal.returns-then-o-eq0
returns-then-o-eq0 c =
    let old = c.args.s.now in
    let n = c.args.n in
    let all : 8 * (n / 8) ≡ n = omega arith in
    filled old _ n (λ q. omega (arith, c.slice_known-1.given q)) c.requires
    (c.fill.ensures.after (λ y e. e) ∙ ap (λ (m : ℕ). replicate m 0) (length-take-le (n / 8) old (omega arith))) ∙ ap (zeroed old 0) all

pub returns : goal.returns
returns c =
    let old = c.args.s.now in
    let n = c.args.n in
    let all : 8 * (n / 8) + n % 8 ≡ n = omega arith in
    cleared_more old _ (n / 8) (n % 8) c.first_off.result (omega arith) (omega arith) (filled old _ n (λ q. omega (arith, c.slice_known-1.given q)) c.requires
    (c.fill.ensures.after (λ y e. e) ∙ ap (λ (m : ℕ). replicate m 0) (length-take-le (n / 8) old (omega arith)))) c.first_off.ensures
    ∙ ap (zeroed old 0) all
