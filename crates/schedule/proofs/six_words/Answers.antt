-- `schedule::six_words`: the six stores, `six-more`, and the last of them. Assumes nothing.
use mathlib.Core.Path.{refl, ap, ◌∙◌}
use Prim.Native.Nat.{ℕ, ◌+◌, ◌-◌, ◌*◌}
use native.Mathlib.Omega.{arith}
use lib.Bits.{bit_xor}
use lib.ListN.{get_or, set, length-set}
use Rattle.schedule.specs.Schedule.{rot_byte, sub_byte, round_constant}
use Rattle.schedule.proofs.KeyWords.{into, turn_last, stored, six-more}
use Rattle.schedule.proofs.six_words.Goals as goal

pub returns : goal.returns
returns c =
    let a = c.args in
    let e = c.requires in
    let w = a.w.now in
    let constant = c.round_constant in
    let x = bit_xor (get_or w (6 * a.k - 6) 0) (constant.result * 16777216) in
    let y = get_or w (6 * a.k - 5) 0 in
    let p = bit_xor y (get_or w (6 * a.k - 4) 0) in
    let q = bit_xor p (get_or w (6 * a.k - 3) 0) in
    let r = bit_xor q (get_or w (6 * a.k - 2) 0) in
    let v = bit_xor x c.substituted_word.result in
    let five = set (set (set (set (set w (6 * a.k) v) (6 * a.k + 1) (bit_xor y v)) (6 * a.k + 2) (bit_xor p v)) (6 * a.k + 3) (bit_xor q v)) (6 * a.k + 4) (bit_xor r v) in (
      stored five (6 * a.k + 5) (bit_xor (bit_xor r a.last) v) (simp length-set (omega arith)),
      λ key g.
          six-more key w a.k g e.0 e.1 _ _ _ _ _ _
          ((λ i. bit_xor (bit_xor (get_or w (6 * a.k - 6) 0) (constant.ensures i * 16777216)) ((c.substituted_word.ensures ∙ ap (λ (l : ℕ). sub_byte (rot_byte l)) e.2) i)) ∙ turn_last (get_or w (6 * a.k - 6) 0) (round_constant (a.k - 1) * 16777216) (sub_byte (rot_byte (get_or w (6 * a.k - 1) 0))))
          refl (into y (get_or w (6 * a.k - 4) 0) v) (into p (get_or w (6 * a.k - 3) 0) v) (into q (get_or w (6 * a.k - 2) 0) v)
          (into r a.last v ∙ ap (λ (l : ℕ). bit_xor l (bit_xor r v)) e.2),
    )
