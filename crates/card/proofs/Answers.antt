-- The answer of a call that changes the table, part by part and as one record. Assumes nothing.
use mathlib.Core.Path.{◌≡◌}
use mathlib.Core.List.{List}
use Prim.Native.Nat.{ℕ}
use Rattle.slots.specs.declared.Slot.{Slot}
use Rattle.slot_calls.specs.Answers.{Changed}
use Rattle.faces.specs.Faces.{changed_as}

pub changed-is : (c : Changed) {r : ℕ} {t : List Slot} → (r ≡ c.refusal) × (t ≡ c.table) → changed_as r t ≡ c
changed-is c e = λ i. changed_as (e.0 i) (e.1 i)
