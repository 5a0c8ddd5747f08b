-- The words of the inverse's schedule: those of round keys 1 to 13 went through the inverse column mixing, and the others did not. Assumes nothing.
use mathlib.Core.Path.{◌≡◌, ap, ◌∙◌}
use mathlib.Core.Logic.{⊎_elim}
use mathlib.Core.List.{List}
use Prim.Native.Nat.{ℕ, ◌<◌, ◌≤◌}
use native.Mathlib.Nat.{zero-add}
use native.Mathlib.Omega.{arith}
use borrow.Author.Tests.{lt-ltb, le-ltb}
use lib.ListN.{get_or}
use Rattle.laws.specs.Lists.{tabulate, Filled}
use Rattle.laws.proofs.Cases.{lt-or-le}
use Rattle.laws.proofs.Lists.{length-tabulate, get_d_tabulate, tabulate-ext, tabulate-at}
use Rattle.schedule.specs.Schedule.{key_word}
use Rattle.inv_parts.specs.Schedule.{inv_mixed_word, mixed_back, inv_key_word}

pub first-stays : (i x : ℕ) → i < 8 → x ≡ mixed_back i x
first-stays i x h = rw (lt-ltb i 8 h)

pub last-stays : (i x : ℕ) → 112 ≤ i → x ≡ mixed_back i x
last-stays i x h = let l : 8 ≤ i = omega arith in rw (le-ltb i 8 l, le-ltb i 112 h)

pub between-mixed : (i x : ℕ) → 8 ≤ i → i < 112 → inv_mixed_word x ≡ mixed_back i x
between-mixed i x l h = rw (le-ltb i 8 l, lt-ltb i 112 h)

-- what stands after words 8 to 111 are done
pub all-mixed : (w v : List ℕ) (i : ℕ) → 112 ≤ i → Filled (λ k. mixed_back k (get_or w k 0)) 0 120 v i → ((k : ℕ) → i ≤ k → get_or v k 0 ≡ get_or w k 0)
    → v ≡ tabulate (λ k. mixed_back k (get_or w k 0)) 0 120
all-mixed w v i h g rest =
    tabulate-ext (λ k. mixed_back k (get_or w k 0)) 0 120 0 v g.size
    (λ k l. rw zero-add (⊎_elim (λ a. g.entries k a) (λ a. let b : 112 ≤ k = omega arith in rest k a ∙ last-stays k (get_or w k 0) b) (lt-or-le k i)))

-- from the cipher's schedule to the inverse's
pub inv-words : (k w : List ℕ) → w ≡ tabulate (key_word k) 0 120 → tabulate (λ i. mixed_back i (get_or w i 0)) 0 120 ≡ tabulate (inv_key_word k) 0 120
unfolding inv_key_word
inv-words k w e =
    tabulate-ext (λ i. mixed_back i (key_word k i)) 0 120 0 (tabulate (λ i. mixed_back i (get_or w i 0)) 0 120) (length-tabulate _ 0 120)
    (λ j l. get_d_tabulate (λ i. mixed_back i (get_or w i 0)) 0 120 j 0 l ∙ rw zero-add (ap (mixed_back j) (tabulate-at (key_word k) 0 e j l)))
