-- `tea::mixing::mixed_bytes`: the bytes below i are right, whatever initial value the first ten are of; `last` is byte i - 1, and `two` the sum of bytes i - 10 and i - 9. Assumes nothing.
use mathlib.Core.List.{List}
use mathlib.Core.Path.{◌≡◌}
use Prim.Native.Nat.{ℕ, ◌-◌, ◌≤◌}
use lib.Bits.{bit_xor}
use lib.ListN.{length, get_or}
use Rattle.laws.specs.Lists.{Filled}
use Rattle.tea.specs.Mixing.{expanded_byte}
use Rattle.tea.proofs.mixing.mixed_bytes.Given as goal

abbrev pub invariant-loop-i : goal.invariant-loop-i
invariant-loop-i l =
    ((10 ≤ l.i) × (l.i ≤ 44)) × ((length l.b ≡ 44) × ((l.last ≡ get_or l.b (l.i - 1) 0) × ((l.two ≡ bit_xor (get_or l.b (l.i - 10) 0) (get_or l.b (l.i - 9) 0)) × ((iv : List ℕ) → length iv ≡ 10 → Filled (expanded_byte iv) 0 44 l.initial.b 10 → Filled (expanded_byte iv) 0 44 l.b l.i))))

abbrev pub decreases-loop-i : goal.decreases-loop-i
decreases-loop-i l = 44 - l.i
