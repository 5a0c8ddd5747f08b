-- `whole_work::whole_of`: a refusal keeps the buffer; else the work's contracts say what it holds. Assumes nothing.
use mathlib.Core.Path.{refl, ◌∙◌}
use borrow.Author.Tests.{ne_eqb}
use Rattle.keystream.specs.Stream.{keystream}
use Rattle.ciphering.specs.Span.{ciphered_as}
use Rattle.whole.specs.Whole.{ciphered}
use Rattle.whole_work.proofs.whole_of.Goals as goal

pub returns-then-refusal-ne-DONE : goal.returns-then-refusal-ne-DONE
returns-then-refusal-ne-DONE c = let no = ne_eqb _ 0 c.if-refusal-ne-DONE.true in (rw no, refl)

pub cipher_pieces-made-requires : goal.cipher_pieces-made-requires
cipher_pieces-made-requires c =
    let may = c.requires c.if-refusal-ne-DONE.false in
    (may.1, may.2, may.3, may.4)

pub returns : goal.returns
returns c =
    let a = c.args in
    let made = c.cipher_pieces-made.ensures in (
      rw c.if-refusal-ne-DONE.false
          (λ i. ciphered_as 0 ((made.0 ∙ (λ j. ciphered a.buf.now (keystream a.slot.fields.algorithm a.slot.key (c.bytes_of.ensures j)) a.p)) i) (made.1 i)),
      made.2 ∙ rw made.1,
    )
