-- What `slotlist` prints of the filled slots (document 01, "Key records"). Assumes nothing: these are definitions.
use Rattle.std.specs.Prelude.{List, [], ◌∷◌, ◌++◌, ℕ, ◌+◌}
use Rattle.laws.specs.Choice.{pick}
use Rattle.algorithms.specs.Algorithm.{name_of}
use Rattle.fields.specs.declared.Fields.{Fields}
use Rattle.slots.specs.declared.Slot.{Slot}
use Rattle.slots.specs.Slots.{is_filled}
use Rattle.writing.specs.Text.{digits, item, line_text}
use Rattle.record_text.specs.Text.{use_word}

-- the codes
abbrev pub codes_text : Fields → List ℕ
codes_text f =
    item " side=" (digits f.side)
    ++ (item " place=" (digits f.place)
    ++ (item " mcc=" (digits f.mcc)
    ++ line_text " mnc=" (digits f.mnc)))

-- all fields but the key
unfoldable pub slot_line : ℕ → Fields → List ℕ
slot_line number f =
    item "number=" (digits number)
    ++ (item " version=" (digits f.version)
    ++ (item " alg=" (name_of f.algorithm)
    ++ (item " use=" (use_word f.usage)
    ++ codes_text f)))

-- one line per filled slot
abbrev pub slot_text : ℕ → Slot → List ℕ
slot_text number slot = pick (is_filled slot) (slot_line number slot.fields) []

-- in number order, from the number of the first slot on
unfoldable pub slot_lines : ℕ → List Slot → List ℕ
slot_lines number [] = []
slot_lines number (slot ∷ table) = slot_text number slot ++ slot_lines (number + 1) table

-- no line of a slot is longer
abbrev pub longest_line : ℕ
longest_line = 77
