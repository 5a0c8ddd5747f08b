-- Lines put one after the other. Assumes nothing.
use Rattle.writing.proofs.Puts.{put_then, put-length, room-first, room-then}

pub ruleset put_steps = (put_then, put-length, room-first, room-then)
