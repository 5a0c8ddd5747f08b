-- `loading::load_all`: what is left to load stays the same with each record. Assumes nothing.
use Rattle.std.proofs.Common.{◌≡◌, ◌+◌, ◌-◌, ◌≤◌, length}
use Rattle.loading.specs.Loading.{load_within, load_all}
use Rattle.loading.proofs.load_all.Given as goal

abbrev pub invariant-loop-rest : goal.invariant-loop-rest
invariant-loop-rest l =
    (1 ≤ l.position) × (l.position + length l.rest ≤ length l.fn.sheet + 1)
    × (load_all l.fn.sheet ≡ load_within (length l.fn.sheet + 1 - l.position) l.table l.position l.rest)

abbrev pub decreases-loop-rest : goal.decreases-loop-rest
decreases-loop-rest l = length l.rest
