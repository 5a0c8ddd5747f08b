-- What one call does: the table afterwards, and everything that the caller sees. Assumes nothing: these are definitions.
use Rattle.std.specs.Prelude.{List, [], ℕ}
use Rattle.fields.specs.declared.Fields.{Fields}
use Rattle.slots.specs.declared.Slot.{Slot}
use Rattle.slot_calls.specs.Answers.{Changed, Shown}
use Rattle.slots.specs.Slots.{no_fields}

-- the refusal; the block count; a record read, its number and fields; the buffer afterwards. What a call does not give is 0, or no byte
pub record Seen : Type 0 where
  pub refusal : ℕ
  pub blocks : ℕ
  pub number : ℕ
  pub fields : Fields
  pub buffer : List ℕ

pub record Step : Type 0 where
  pub table : List Slot
  pub seen : Seen

-- a refusal alone
abbrev pub told : ℕ → Seen
told refusal = record { refusal = refusal; blocks = 0; number = 0; fields = no_fields; buffer = [] }

-- a load, a move, a clear
abbrev pub changing : Changed → Step
changing x = record { table = x.table; seen = told x.refusal }

-- a read that leaves this table
abbrev pub reading : List Slot → Shown → Step
reading table x =
    record { table = table; seen = record { refusal = x.refusal; blocks = 0; number = x.number; fields = x.fields; buffer = [] } }

-- a traffic call that leaves this table
abbrev pub ciphering : List Slot → ℕ → ℕ → List ℕ → Step
ciphering table refusal blocks buffer =
    record { table = table; seen = record { refusal = refusal; blocks = blocks; number = 0; fields = no_fields; buffer = buffer } }
