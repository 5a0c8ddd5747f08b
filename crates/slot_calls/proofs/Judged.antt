-- What the refusals of the calls are judged by. Assumes nothing.
pub use Rattle.slots.proofs.Tables.{keyless-empty}

-- a slot whose key is not read is empty where it shows nothing
pub ruleset judging = (keyless-empty)
