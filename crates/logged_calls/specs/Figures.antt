-- The figures of a month as they are kept while a log is read: where each stands, and what a line adds. Assumes nothing: these are definitions.
use Rattle.std.specs.Prelude.{List, ℕ, ◌+◌, ◌-◌, ◌*◌, ◌%◌, ◌^◌, get_or, set}
use Rattle.laws.specs.Choice.{pick}
use Rattle.logged_calls.specs.declared.Call.{Call}
use Rattle.logged_calls.specs.Log.{is_accepted}

-- A row is calls, bits and blocks. Rows 0 to 63 are those of the slots, two for each, by direction; row 64 is that of all accepted calls.
abbrev pub row_of : ℕ → ℕ → ℕ
row_of slot direction = 2 * (slot - 1) + (direction - 1)

abbrev pub total_row : ℕ
total_row = 64

abbrev pub calls_at : ℕ → ℕ
calls_at row = 3 * row

abbrev pub bits_at : ℕ → ℕ
bits_at row = 3 * row + 1

abbrev pub blocks_at : ℕ → ℕ
blocks_at row = 3 * row + 2

-- then the number of lines, and the count of each refusal number from 1 on
abbrev pub lines_at : ℕ
lines_at = 195

abbrev pub count_at : ℕ → ℕ
count_at code = 195 + code

abbrev pub figure_count : ℕ
figure_count = 223

-- n more at a place. A machine's sum of 64 bits; no sum of a log comes near 2 ^ 64
unfoldable pub plus : List ℕ → ℕ → ℕ → List ℕ
plus figures i n = set figures i ((get_or figures i 0 + n) % 2 ^ 64)

-- a call more in a row
unfoldable pub into_row : List ℕ → ℕ → ℕ → ℕ → List ℕ
into_row figures row bits blocks = plus (plus (plus figures (calls_at row) 1) (bits_at row) bits) (blocks_at row) blocks

-- a line more: an accepted call, in its row and among all; or a refused one, by its number
unfoldable pub added_accepted : List ℕ → ℕ → ℕ → ℕ → List ℕ
added_accepted figures row bits blocks = plus (into_row (into_row figures row bits blocks) total_row bits blocks) lines_at 1

unfoldable pub added_refused : List ℕ → ℕ → List ℕ
added_refused figures code = plus (plus figures (count_at code) 1) lines_at 1

unfoldable pub added : List ℕ → Call → List ℕ
added figures c =
    pick (is_accepted c) (added_accepted figures (row_of c.slot c.direction) c.bits c.blocks) (added_refused figures c.code)
