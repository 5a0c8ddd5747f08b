-- `line_parts::ends_with`: the last byte, as std compares it. Assumes nothing.
use Rattle.std.proofs.Common.{◌∙◌}
use Rattle.line_parts.proofs.Counts.{ends-last}
use Rattle.line_parts.proofs.ends_with.Goals as goal

pub returns : goal.returns
returns c = c.ends_with.ensures.value ∙ (ends-last c.args.b c.args.s.now).1
