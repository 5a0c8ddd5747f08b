-- `plain_blocks::mode::mode_by`: both lists are filled side by side; byte k of the mixed value is b[20 + k]. Assumes nothing.
use mathlib.Core.Path.{◌≡◌, refl, sym, ap, ◌∙◌}
use mathlib.Core.List.{List}
use Prim.Native.Nat.{ℕ, ◌+◌, ◌/◌, ◌%◌, ◌<◌}
use lib.ListN.{get_or}
use Rattle.laws.proofs.Lists.{tabulate-at}
use Rattle.tea.specs.Mixing.{expanded_byte, mixed_value}
use Rattle.tea.specs.Mode.{combined}
use Rattle.tea.proofs.Halves.{halves-none, halves-more, halves-all}
use Rattle.plain_blocks.proofs.mode.mode_by.Goals as goal

-- byte k of the mixed value

mixed-at : (iv : List ℕ) (k : ℕ) → k < 24 → expanded_byte iv (20 + k) ≡ get_or (mixed_value iv) k 0
unfolding mixed_value
mixed-at iv k h = sym (tabulate-at (λ j. expanded_byte iv (20 + j)) 0 refl k h)

pub loop-k-preserved : goal.loop-k-preserved
loop-k-preserved c =
    let a = c.args in
    let k = c.loop-k.k in
    let h : k < 24 = c.loop-k-test.true in
    let v : c.byte-v.result ≡ get_or (mixed_value a.iv) k 0 = c.byte-v.ensures ∙ mixed-at a.iv k h in
    halves-more c.loop-k.invariant h _ _ _ _
    (c.combine-x.ensures ∙ ap (λ (m : ℕ). combined a.f.now (get_or a.ck.now k 0 / 16) (m / 16)) v)
    (c.combine-y.ensures ∙ ap (λ (m : ℕ). combined a.f.now (get_or a.ck.now k 0 % 16) (m % 16)) v)
    c.join_halves.ensures c.join_halves-in-loop-k.ensures

pub loop-k-init : goal.loop-k-init
loop-k-init c = halves-none

pub returns : goal.returns
returns c = halves-all _ c.loop-k.invariant c.loop-k-test.false
