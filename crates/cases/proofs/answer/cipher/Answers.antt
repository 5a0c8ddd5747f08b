-- `answer::cipher`: the bytes of the last part, xored with the keystream. Assumes nothing.
use mathlib.Core.List.{List}
use mathlib.Core.Path.{◌≡◌, sym, ap, ◌∙◌}
use Prim.Native.Nat.{ℕ, ◌/◌}
use native.Mathlib.Omega.{arith}
use lib.ListN.{length}
use Rattle.span.specs.Span.{xored}
use Rattle.keystream.specs.Stream.{keystream}
use Rattle.line_values.specs.Parts.{are_bytes, bytes_of}
use Rattle.case_reader.specs.Case.{case_of}
use Rattle.cases.specs.Answer.{ciphered_case}
use Rattle.case_reader.proofs.Passed.{passed, buffer-readable}
use Rattle.cases.proofs.answer.cipher.Goals as goal

pub read_bytes-requires : goal.read_bytes-requires
read_bytes-requires c =
    let e = c.after_spaces.ensures in
    let pre = c.requires in
    (ap are_bytes e ∙ buffer-readable _ pre.0.readable, pre.1 ∙ sym (ap (λ (l : List ℕ). length l / 2) e))

-- the buffer holds the bytes of the case

pub cipher_from-requires : goal.cipher_from-requires
unfolding case_of
cipher_from-requires c =
    let read : c.read_bytes.new.buf ≡ (case_of c.args.line.now).buffer =
    c.read_bytes.ensures ∙ ap bytes_of c.after_spaces.ensures
    in
    let size = ap length read in
    let span = (passed c.requires.0).span in
    let start = c.value-start.ensures in
    let bits = c.value-bits.ensures in
    let skip = c.value-skip.ensures in
    (omega arith, record { inside = omega arith; streamed = omega arith })

pub returns : goal.returns
unfolding ciphered_case case_of
returns c =
    let read : c.read_bytes.new.buf ≡ (case_of c.args.line.now).buffer =
    c.read_bytes.ensures ∙ ap bytes_of c.after_spaces.ensures
    in
    c.cipher_from.ensures.0
    ∙ (λ i.
    xored
    (read i)
    (keystream (c.value-algorithm.ensures i) (c.key_of-ck.ensures i) (c.iv_of-iv.ensures i))
    (c.value-start.ensures i)
    (c.value-skip.ensures i)
    (c.value-bits.ensures i))
