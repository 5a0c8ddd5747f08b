-- `plain_field::s_box::s_box`: by the callees' contracts. Assumes nothing.
use Rattle.gf256.specs.Field.{s_box}
use Rattle.plain_field.proofs.s_box.s_box.Goals as goal

pub returns : goal.returns
unfolding s_box
returns c = cc
