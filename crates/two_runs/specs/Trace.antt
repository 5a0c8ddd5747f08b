-- Where the key in each slot comes from. Assumes nothing: these are definitions.
use Rattle.std.specs.Prelude.{List, ℕ, eqb}
use Rattle.std.proofs.Math.Option.{Option, none, some}
use Rattle.laws.specs.Choice.{pick}
use Rattle.slots.specs.declared.Slot.{Slot}
use Rattle.slots.specs.Slots.{is_filled, slot_at}
use Rattle.two_runs.specs.Calls.{Call, load, move, clear, read, traffic, Origin, load_at, present}

-- by slot number: an origin, or none
abbrev pub Trace : Type 0
Trace = ℕ → Option Origin

-- at the start, a key that is there comes from its slot; an empty table holds no key
abbrev pub at_start : List Slot → Trace
at_start table number = pick (is_filled (slot_at table number)) (some (present number)) none

abbrev pub put : ℕ → Option Origin → Trace → Trace
put number origin trace n = pick (eqb n number) origin (trace n)

-- An accepted call at this place: a load sets the trace of its slot, a move carries it to the second slot, a clear ends it.
unfoldable pub traced : ℕ → Call → Trace → Trace
traced place (load number a key) trace = put number (some (load_at place)) trace
traced place (move from to asked) trace = put from none (put to (trace from) trace)
traced place (clear number) trace = put number none trace
traced place (read number) trace = trace
traced place (traffic how buf w) trace = trace
