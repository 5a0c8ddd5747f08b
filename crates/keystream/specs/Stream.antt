-- The key stream segment KSS (ETSI TS 104 053-2, clauses 5.4, 6.4, 7.4). Assumes nothing: this is a definition.
use Rattle.std.specs.Prelude.{List, ℕ}
use Rattle.span.specs.Span.{stream_bit}
use Rattle.tea.specs.Mode.{mode_of}
use Rattle.tea.specs.Keystream.{block_of}

-- KSS[i] of a key and an initial value: with i = 256 r + 8 s + t, bit t of byte s of block r
abbrev pub keystream : ℕ → List ℕ → List ℕ → ℕ → ℕ
keystream algorithm ck iv = stream_bit (block_of (mode_of algorithm ck iv))
