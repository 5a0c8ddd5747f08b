-- `plain_field::s_box::affine`: by the callee's contract. Assumes nothing.
use Rattle.gf256.specs.Field.{affine}
use Rattle.plain_field.proofs.s_box.affine.Goals as goal

pub returns : goal.returns
unfolding affine
returns c = cc
