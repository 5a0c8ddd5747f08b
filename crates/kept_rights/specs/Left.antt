-- The records that a table holds, and the pairs that say of each where it stood before (document 02, [11]). Assumes nothing: these are definitions.
use Rattle.std.specs.Prelude.{◌≡◌, Bool, true, false, ◌||◌, List, [], ◌∷◌, ◌++◌, ℕ, suc, ◌<◌, ◌≤◌, length, get_or}
use Rattle.std.proofs.Math.Option.{Option, none, some}
use Rattle.laws.specs.Choice.{pick}
use Rattle.fields.specs.Fields.{is_slot_number}
use Rattle.slots.specs.declared.Slot.{Slot}
use Rattle.slots.specs.Slots.{is_filled, has_bad, slot_at}
use Rattle.record_text.specs.Text.{record_text}
use Rattle.record_reader.specs.Record.{Entry}
use Rattle.two_runs.specs.Calls.{Call, load, move, clear, read, traffic, Origin, load_at, present}
use Rattle.two_runs.specs.Trace.{Trace}

abbrev pub entry_of : ℕ → Slot → Entry
entry_of number s = record { number = number; fields = s.fields; key = s.key }

-- of the slots from this number on, the records of those that are filled, in the order of their numbers
unfoldable pub entries_from : ℕ → List Slot → List Entry
entries_from number [] = []
entries_from number (s ∷ slots) = pick (is_filled s) (entry_of number s ∷ entries_from (suc number) slots) (entries_from (suc number) slots)

abbrev pub entries_of : List Slot → List Entry
entries_of table = entries_from 1 table

-- as they are written: form 2, one after the other
unfoldable pub entries_text : List Entry → List ℕ
entries_text [] = []
entries_text (e ∷ es) = record_text e.number e.fields e.key ++ entries_text es

-- the number of the slot that held it at the start; 0, which is no slot's number, where none did
abbrev pub start_number : Option Origin → ℕ
start_number none = 0
start_number (some (load_at place)) = 0
start_number (some (present number)) = number

-- a pair for each record, flat: the number it had at the start, and its number
unfoldable pub pairs_left : Trace → List Entry → List ℕ
pairs_left trace [] = []
pairs_left trace (e ∷ es) = start_number (trace e.number) ∷ e.number ∷ pairs_left trace es

-- calls that load nothing: moves and clears, and whatever changes no slot
abbrev pub is_load : Call → Bool
is_load (load number a key) = true
is_load (move from to asked) = false
is_load (clear number) = false
is_load (read number) = false
is_load (traffic how buf w) = false

unfoldable pub has_load : List Call → Bool
has_load [] = false
has_load (c ∷ cs) = is_load c || has_load cs

-- a slot's version is 16 bits and its key 24 bytes, by their kind
pub record OfKind (s : Slot) : Type 0 where
  pub version : s.fields.version ≤ 65535
  pub size : length s.key ≡ 24
  pub bytes : (i : ℕ) → get_or s.key i 0 < 256

-- a table of 32 slots, none of them bad
pub record SoundTable (table : List Slot) : Type 0 where
  pub size : length table ≡ 32
  pub good : has_bad table ≡ false
  pub kind : (number : ℕ) → is_slot_number number ≡ true → OfKind (slot_at table number)
