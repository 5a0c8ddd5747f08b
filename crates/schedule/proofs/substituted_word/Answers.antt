-- `schedule::substituted_word`: byte by byte. Assumes nothing.
use mathlib.Core.Path.{sym, ap, ◌∙◌}
use Prim.Native.Nat.{◌<◌}
use borrow.Author.Rules.{rules}
use Rattle.gf256.specs.Field.{s_box}
use Rattle.schedule.specs.Schedule.{sub_byte}
use Rattle.words.specs.Words.{join}
use Rattle.schedule.proofs.KeyWords.{turn-0, turn-1, turn-2, turn-3}
use Rattle.schedule.proofs.substituted_word.Goals as goal

pub returns : goal.returns
unfolding sub_byte
returns c =
    let x = c.args.x in
    let h : x < 4294967296 = search rules in
    c.join_bytes.ensures
    ∙ (λ i. join
    ((c.substitute.ensures ∙ ap s_box (c.byte1.ensures ∙ sym (turn-0 x h))) i)
    ((c.substitute-2.ensures ∙ ap s_box (c.byte2.ensures ∙ sym (turn-1 x h))) i)
    ((c.substitute-3.ensures ∙ ap s_box (c.byte3.ensures ∙ sym (turn-2 x h))) i)
    ((c.substitute-4.ensures ∙ ap s_box (c.byte0.ensures ∙ sym (turn-3 x h))) i))
