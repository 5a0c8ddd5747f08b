-- The records of a sheet, loaded into an empty table one after the other (document 01, "Key records"). Assumes nothing: these are definitions.
use Rattle.std.specs.Prelude.{not, List, ℕ, zero, suc, ◌+◌, eqb, length, drop}
use Rattle.laws.specs.Choice.{pick}
use Rattle.refusals.specs.Numbers.{done}
use Rattle.slots.specs.declared.Slot.{Slot}
use Rattle.fields.specs.Fields.{asked_of}
use Rattle.slots.specs.Slots.{empty_table}
use Rattle.slot_calls.specs.Calls.{loaded}
use Rattle.record_reader.specs.Record.{record_read}

-- the table; or the refusal of a record, the record's place in the sheet counted from 1, line and column, with an empty table
pub record Loaded : Type 0 where
  pub refusal : ℕ
  pub position : ℕ
  pub line : ℕ
  pub column : ℕ
  pub table : List Slot

-- every record is loaded
abbrev pub filled : List Slot → Loaded
filled table = record { refusal = done; position = 0; line = 0; column = 0; table = table }

-- a record is refused
abbrev pub refused : ℕ → ℕ → ℕ → ℕ → Loaded
refused refusal position line column =
    record { refusal = refusal; position = position; line = line; column = column; table = empty_table }

-- The records of s, the first of them at a position of the sheet, are loaded into a table one after the other, until the bytes end.
-- The first argument only bounds how many there are.
unfoldable pub load_within : ℕ → List Slot → ℕ → List ℕ → Loaded
load_within zero table position s = filled table
load_within (suc k) table position s =
    let read = record_read s in
    let change = loaded table read.number (asked_of read.fields) read.key in
    pick (eqb (length s) 0) (filled table)
    (pick (not (eqb read.refusal done)) (refused read.refusal position read.line read.column)
    (pick (not (eqb change.refusal done)) (refused change.refusal position 0 0)
    (load_within k change.table (position + 1) (drop read.used s))))

-- into an empty table, counted from 1
unfoldable pub load_all : List ℕ → Loaded
load_all sheet = load_within (length sheet) empty_table 1 sheet
