-- `plain_blocks::blocks::tag`: by the callee's contract. Assumes nothing.
use mathlib.Core.List.{[], ◌∷◌}
use mathlib.Core.Path.{◌≡◌, ◌∙◌}
use Prim.Native.Nat.{ℕ, ◌/◌, ◌%◌}
use native.Mathlib.Omega.{arith}
use Rattle.plain_blocks.proofs.blocks.tag.Goals as goal

-- the last byte of a number, as the definition has it

last : (j : ℕ) → j % 256 ≡ j / 1 % 256
last j = omega arith

pub returns : goal.returns
returns c =
    λ i. 84 ∷ 69 ∷ 65 ∷ c.args.digit ∷ c.low_byte.ensures i ∷ c.low_byte-2.ensures i ∷ c.low_byte-3.ensures i ∷ (c.low_byte-4.ensures ∙ last _) i ∷ []
