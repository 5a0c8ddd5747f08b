-- How many blocks of a keystream, of 256 bits each, a run of its bits uses, and two runs. Assumes nothing: these are definitions.
use Rattle.std.specs.Prelude.{Bool, not, ◌&&◌, ℕ, ◌+◌, ◌-◌, ◌/◌, eqb}
use Rattle.laws.specs.Choice.{pick}

-- How many different blocks hold one of the n bits from `skip` on: from the first bit's block to the last bit's, and none for no bit.
unfoldable pub blocks_used : ℕ → ℕ → ℕ
blocks_used skip n = pick (eqb n 0) 0 ((skip + n - 1) / 256 - skip / 256 + 1)

-- The number after that of the last block that holds one of the n bits from `skip` on, and `next` for no bit.
unfoldable pub block_after : ℕ → ℕ → ℕ → ℕ
block_after next skip n = pick (eqb n 0) next ((skip + n - 1) / 256 + 1)

-- The last bit of one run and the first bit of another are in one block.
abbrev pub share_block : ℕ → ℕ → ℕ → ℕ → Bool
share_block skip n skip₂ n₂ = not (eqb n 0) && not (eqb n₂ 0) && eqb ((skip + n - 1) / 256) (skip₂ / 256)

-- How many different blocks hold a bit of one of two runs, the second behind the first: the blocks of each, less the one that both use.
unfoldable pub blocks_of_both : ℕ → ℕ → ℕ → ℕ → ℕ
blocks_of_both skip n skip₂ n₂ = blocks_used skip n + blocks_used skip₂ n₂ - pick (share_block skip n skip₂ n₂) 1 0

-- How many blocks n bits use at most, wherever they start (document 02, [10]).
abbrev pub most_blocks : ℕ → ℕ
most_blocks n = (n + 254) / 256 + 1
