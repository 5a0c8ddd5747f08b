-- `log_figures::add`: a sound call's numbers. Assumes nothing.
use Rattle.std.proofs.Common.{arith}
use Rattle.logged_calls.proofs.Sound.{accepted-ranges, refused-code}
use Rattle.log_figures.proofs.add.Goals as goal

pub row_of-requires : goal.row_of-requires
row_of-requires c = let r = accepted-ranges c.args.c c.requires (omega arith) in (r.slot-low, r.slot-high, r.direction-low, r.direction-high)

pub add_refused-requires : goal.add_refused-requires
add_refused-requires c = refused-code c.args.c c.requires c.if-c-eq0.false
