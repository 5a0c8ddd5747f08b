-- Keystream given from a bit on: the bench call (document 01) with a skip, which counts in refusal 4 and names the first bit given (document 02, [2]).
-- Assumes nothing: these are definitions.
use Rattle.std.specs.Prelude.{List, ℕ, eqb, length, Result, Ok, Err}
use Rattle.laws.specs.Choice.{pick}
use Rattle.refusals.specs.Numbers.{done}
use Rattle.refusals.specs.declared.Refusal.{Refusal}
use Rattle.span.specs.Span.{written}
use Rattle.block_counts.specs.Counts.{blocks_used}
use Rattle.keystream.specs.Stream.{keystream}
use Rattle.bench.specs.Bench.{keyed_refusal}

-- the buffer is written from its bit 0 on, whatever is skipped of the keystream
abbrev pub given_refusal : ℕ → List ℕ → List ℕ → List ℕ → ℕ → ℕ → ℕ
given_refusal algorithm key iv buf n skip = keyed_refusal algorithm (length key) (length iv) (length buf) 0 n skip

-- the buffer afterwards: its bit i, for i below n, is keystream bit skip + i, and a refusal changes nothing
unfoldable pub given_buffer : ℕ → List ℕ → List ℕ → List ℕ → ℕ → ℕ → List ℕ
given_buffer algorithm key iv buf n skip =
    pick (eqb (given_refusal algorithm key iv buf n skip) done) (written buf (keystream algorithm key iv) 0 skip n) buf

-- the blocks reported
unfoldable pub given_blocks : ℕ → List ℕ → List ℕ → List ℕ → ℕ → ℕ → ℕ
given_blocks algorithm key iv buf n skip = pick (eqb (given_refusal algorithm key iv buf n skip) done) (blocks_used skip n) 0

-- the blocks that a call made: none where it is refused
abbrev pub count_of : Result ℕ Refusal → ℕ
count_of (Ok made) = made
count_of (Err _) = 0
