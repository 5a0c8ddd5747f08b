-- What `slotlist` prints of a sheet of records (document 01, "Key records"). Assumes nothing: these are definitions.
use Rattle.std.specs.Prelude.{List, [], ◌∷◌, ◌++◌, ℕ, ◌+◌, eqb, ltb, length}
use Rattle.laws.specs.Choice.{pick}
use Rattle.refusals.specs.Numbers.{done}
use Rattle.slots.specs.declared.Slot.{Slot}
use Rattle.slots.specs.Slots.{is_filled}
use Rattle.writing.specs.Text.{digits, item, line_text}
use Rattle.writing.specs.Writing.{at_front}
use Rattle.slot_lines.specs.Lines.{slot_lines}
use Rattle.loading.specs.Loading.{Loaded}
use Rattle.loading.specs.Loading.{load_all}

unfoldable pub filled_count : List Slot → ℕ
filled_count [] = 0
filled_count (slot ∷ table) = pick (is_filled slot) 1 0 + filled_count table

-- a header with the table's size, the filled slots, and their count
unfoldable pub table_text : List Slot → List ℕ
table_text table =
    line_text "table=" (digits (length table)) ++ (slot_lines 1 table ++ line_text "filled=" (digits (filled_count table)))

unfoldable pub refusal_text : ℕ → ℕ → ℕ → ℕ → List ℕ
refusal_text refusal position line column =
    item "refused=" (digits refusal)
    ++ (item " record=" (digits position)
    ++ (item " line=" (digits line)
    ++ line_text " column=" (digits column)))

-- the table, or only the refusal
unfoldable pub loaded_text : Loaded → List ℕ
loaded_text l = pick (eqb l.refusal done) (table_text l.table) (refusal_text l.refusal l.position l.line l.column)

-- what is printed
unfoldable pub listing : List ℕ → List ℕ
listing sheet = loaded_text (load_all sheet)

-- every listing fits a buffer of this many bytes
abbrev pub room : ℕ
room = 2560

-- what the call answers, and what the buffer holds after it
unfoldable pub listed_length : List ℕ → List ℕ → ℕ
listed_length sheet buffer = pick (ltb (length buffer) room) 0 (length (listing sheet))

unfoldable pub listed_buffer : List ℕ → List ℕ → List ℕ
listed_buffer sheet buffer = pick (ltb (length buffer) room) buffer (at_front (listing sheet) buffer)
