-- What the code answers, as the definitions have it. Assumes nothing: these are definitions.
use Rattle.std.specs.Prelude.{List, Result, Ok, Err}
use Rattle.refusals.specs.Refused.{number}
use Rattle.slots.specs.declared.Slot.{Slot}
use Rattle.loading.specs.declared.Refused.{Refused}
use Rattle.loading.specs.Loading.{Loaded, filled, refused}

abbrev pub loaded_of : Result (List Slot) Refused → Loaded
loaded_of (Ok table) = filled table
loaded_of (Err r) = refused (number r.refusal) r.position r.line r.column
