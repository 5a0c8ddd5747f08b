-- A run of calls from a table: what was seen, call by call, and the table and its trace before each call. Assumes nothing: these are definitions.
use Rattle.std.specs.Prelude.{Bool, List, [], ◌∷◌, ℕ, zero, suc, eqb, get_or}
use Rattle.laws.specs.Choice.{pick}
use Rattle.refusals.specs.Numbers.{done}
use Rattle.slots.specs.declared.Slot.{Slot}
use Rattle.two_runs.specs.Calls.{Call, read}
use Rattle.two_runs.specs.Step.{Seen, told}
use Rattle.two_runs.specs.Card.{Card, step}
use Rattle.two_runs.specs.Trace.{Trace, at_start, traced}

-- between two calls: how many were made, the table, and its trace
pub record State : Type 0 where
  pub place : ℕ
  pub table : List Slot
  pub trace : Trace

abbrev pub start_of : List Slot → State
start_of table = record { place = 0; table = table; trace = at_start table }

-- call i of a list; past the end only ever a default
abbrev pub call_at : List Call → ℕ → Call
call_at cs i = get_or cs i (read 0)

-- entry i of what was seen; past the end only ever a default
abbrev pub seen_in : List Seen → ℕ → Seen
seen_in xs i = get_or xs i (told 0)

module _ (card : Card) where
  abbrev pub accepted : State → Call → Bool
  accepted s c = eqb (step card s.table c).seen.refusal done

  -- a refused call leaves the trace as it is
  unfoldable pub next : State → Call → State
  next s c = record {
    place = suc s.place;
    table = (step card s.table c).table;
    trace = pick (accepted s c) (traced s.place c s.trace) s.trace;
  }

  -- what was seen, call by call
  unfoldable pub run : State → List Call → List Seen
  run s [] = []
  run s (c ∷ cs) = (step card s.table c).seen ∷ run (next s c) cs

  -- before call i, counted from 0
  unfoldable pub state_at : State → List Call → ℕ → State
  state_at s [] i = s
  state_at s (c ∷ cs) zero = s
  state_at s (c ∷ cs) (suc i) = state_at (next s c) cs i

  -- from a table: what was seen of call i, and the table and its trace before it

  abbrev pub seen_at : List Slot → List Call → ℕ → Seen
  seen_at table cs i = seen_in (run (start_of table) cs) i

  abbrev pub table_at : List Slot → List Call → ℕ → List Slot
  table_at table cs i = (state_at (start_of table) cs i).table

  abbrev pub trace_at : List Slot → List Call → ℕ → Trace
  trace_at table cs i = (state_at (start_of table) cs i).trace
