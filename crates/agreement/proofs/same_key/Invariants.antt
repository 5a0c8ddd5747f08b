-- `agreement::same_key`: the bytes passed agree. Assumes nothing.
use Rattle.std.proofs.Common.{◌≡◌, length}
use Rattle.agreement.specs.Agreement.{same_bytes}
use Rattle.agreement.proofs.same_key.Given as goal

abbrev pub invariant-loop-x : goal.invariant-loop-x
invariant-loop-x l = l.same ≡ same_bytes l.fn.a l.fn.b (length l.yielded)
