-- `schedule::round_constant`: by one test of 19. Assumes nothing.
use mathlib.Core.List.{List, [], ◌∷◌}
use Prim.Native.Nat.{ℕ}
use borrow.Author.Rules.{rules}
use lib.ListN.{get_or}
use Rattle.schedule.specs.Schedule.{round_constant}
use Rattle.laws.proofs.Tests.{agree}
use Rattle.schedule.proofs.round_constant.Goals as goal

entries : List ℕ
entries = 0x01 ∷ 0x02 ∷ 0x04 ∷ 0x08 ∷ 0x10 ∷ 0x20 ∷ 0x40 ∷ 0x80 ∷ 0x1b ∷ 0x36 ∷ 0x6c ∷ 0xd8 ∷ 0xab ∷ 0x4d ∷ 0x9a ∷ 0x2f ∷ 0x5e ∷ 0xbc ∷ 0x63 ∷ []

pub returns : goal.returns
unfolding entries round_constant
returns c = agree (λ n. get_or entries n 0) round_constant 0 19 tt c.args.n (search rules) c.requires
