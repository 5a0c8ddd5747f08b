-- `refusals::Refusal::number`: the cast counts the refusals from 0, and they are numbered from 1. Assumes nothing.
use Rattle.refusals.proofs.Tags.{number-tag}
use Rattle.refusals.proofs.Refusal.number.Goals as goal

pub returns : goal.returns
returns c = number-tag c.args.self
