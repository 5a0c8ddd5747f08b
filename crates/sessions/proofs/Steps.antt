-- The step is the card's: for each call on a table by value, what its contract tells a caller makes the answer the step. Assumes nothing.
-- `Learnt`, of a function's module, is its `ensures` as it stands in the source: of the arguments, the result r, and e, the parameters at exit.
use mathlib.Core.List.{List}
use mathlib.Core.Path.{◌≡◌, ap}
use Prim.Native.Nat.{ℕ}
use Rattle.std.specs.Prelude.{Result}
use Rattle.refusals.specs.declared.Refusal.{Refusal}
use Rattle.fields.specs.declared.Asked.{Asked}
use Rattle.slots.specs.declared.Slot.{Slot}
use Rattle.slot_calls.specs.declared.Found.{Found}
use Rattle.slot_calls.specs.Answers.{changed_of, shown_as_found}
use Rattle.slots.specs.Slots.{empty_table}
use Rattle.slots.proofs.empty_table.Reads as slots-empty-table
use Rattle.table_calls.proofs.load.Reads as slots-load
use Rattle.table_calls.proofs.move_slot.Reads as slots-move-slot
use Rattle.table_calls.proofs.clear.Reads as slots-clear
use Rattle.table_calls.proofs.read.Reads as slots_read
use Rattle.two_runs.specs.Calls.{load, move, clear, read}
use Rattle.two_runs.specs.Step.{changing, reading}
use Rattle.two_runs.specs.Card.{step}
use Rattle.demand_3.specs.Ours.{our_card}

pub empty-table-starts : (r : List Slot) (κs : _) (e : _) → slots-empty-table.Learnt κs tt r e → r ≡ empty_table
empty-table-starts r κs e ensures = ensures

module _ (table : List Slot) where
  pub load-steps : (number : ℕ) (a : Asked) (key : List ℕ) (r : Result (List Slot) Refusal) (κs : _) (e : _)
      → slots-load.Learnt κs (table, (number, (a, (key, tt)))) r e → changing (changed_of table r) ≡ step our_card table (load number a key)
  unfolding step
  load-steps number a key r κs e ensures = ap changing ensures

  pub move-steps : (from to asked : ℕ) (r : Result (List Slot) Refusal) (κs : _) (e : _)
      → slots-move-slot.Learnt κs (table, (from, (to, (asked, tt)))) r e → changing (changed_of table r) ≡ step our_card table (move from to asked)
  unfolding step
  move-steps from to asked r κs e ensures = ap changing ensures

  pub clear-steps : (number : ℕ) (r : Result (List Slot) Refusal) (κs : _) (e : _)
      → slots-clear.Learnt κs (table, (number, tt)) r e → changing (changed_of table r) ≡ step our_card table (clear number)
  unfolding step
  clear-steps number r κs e ensures = ap changing ensures

  pub read-steps : (number : ℕ) (r : Result Found Refusal) (κs : _) (e : _)
      → slots_read.Learnt κs (table, (number, tt)) r e → reading table (shown_as_found r) ≡ step our_card table (read number)
  unfolding step
  read-steps number r κs e ensures = ap (reading table) ensures
