-- What our own card leaves passes our own check (document 02, [11]): what proofs/Pass.antt proves. Assumes nothing: these are definitions.
use Rattle.std.specs.Prelude.{◌≡◌, List, ℕ}
use Rattle.slots.specs.declared.Slot.{Slot}
use Rattle.two_runs.specs.Calls.{Call}
use Rattle.demand_3.specs.Ours.{our_card}
use Rattle.two_runs.specs.Run.{table_at, trace_at}
use Rattle.conversion.specs.Conversion.{passes, conversion_checked}
use Rattle.kept_rights.specs.Left.{entries_of, entries_text, pairs_left}

-- Before call i of a list, and so after the last where i is its length: the records of the table, with their pairs, against a text of records.
abbrev pub Passes : List ℕ → List Slot → List Call → Type 0
Passes text start cs =
    (i : ℕ)
    → let left = entries_of (table_at our_card start cs i) in conversion_checked text (entries_text left) (pairs_left (trace_at our_card start cs i) left) ≡ passes
