-- What a call makes, as a value: key schedules and blocks. Assumes nothing: these are definitions.
use Rattle.std.specs.Prelude.{◌≡◌, List, [], ℕ, ◌+◌, ◌-◌, ◌*◌, ◌%◌, ◌<◌, ◌≤◌, eqb, length, get_or}
use Rattle.laws.specs.Choice.{pick}
use Rattle.span.specs.Span.{longest_stream, xored}
use Rattle.block_counts.specs.Counts.{blocks_of_both}
use Rattle.tea.specs.declared.mode.Mode.{Mode}
use Rattle.tea.specs.Keystream.{block_of}
use Rattle.keystream.specs.declared.Run.{Run}
use Rattle.keystream.specs.declared.Work.{Work}

-- the schedule is filled, and no block is made
abbrev pub begun : Work
begun = record { schedules = 1; blocks = 0; next = 0 }

-- one block more, with number j
abbrev pub with_block : Work → ℕ → Work
with_block work j = record { schedules = work.schedules; blocks = work.blocks + 1; next = j + 1 }

-- block j is at hand: it was the last, or it is made
abbrev pub at_block : Work → ℕ → Work
at_block work j = pick (eqb work.next (j + 1)) work (with_block work j)

-- of two places for blocks, by the parity of their numbers, one holds the block before number `next`, where there is one
pub record Held (mode : Mode) (next : ℕ) (kept : List (List ℕ)) : Type 0 where
  pub two : length kept ≡ 2
  pub last : 0 < next → get_or kept ((next - 1) % 2) [] ≡ block_of mode (next - 1)

-- the run lies in a buffer, and within the keystream
pub record Fits (buf : List ℕ) (p : Run) : Type 0 where
  pub inside : p.start + p.n ≤ 8 * length buf
  pub streamed : p.skip + p.n ≤ longest_stream

-- the second run is behind the first in the keystream, where there is one
abbrev pub Later : Run → Run → Type 0
Later p q = 0 < q.n → p.skip + p.n ≤ q.skip

-- the buffer after a run of it was xored with the bits of k
abbrev pub through_run : List ℕ → (ℕ → ℕ) → Run → List ℕ
through_run buf k p = xored buf k p.start p.skip p.n

-- how many different blocks hold a bit that one of two runs uses
abbrev pub blocks_over : Run → Run → ℕ
blocks_over p q = blocks_of_both p.skip p.n q.skip q.n
