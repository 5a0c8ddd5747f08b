-- Two keystream bits that differ, computed from the definitions by the check itself. To be within its limit of steps, each window of the key
-- schedule is made once, and the S-box is looked up in its table. Assumes nothing.
use mathlib.Core.List.{List, [], ◌∷◌, ◌++◌}
use mathlib.Core.Path.{◌≡◌, refl, sym, ap, ◌∙◌}
use Prim.Native.Nat.{ℕ, zero, suc, ◌+◌, ◌-◌, ◌*◌, ◌/◌, ◌%◌}
use native.Mathlib.Nat.{zero-add}
use borrow.Author.Tests.{ltb-true}
use lib.Bits.{bit_xor}
use lib.Dec.{eqb, ltb}
use lib.ListN.{get_or, drop, replicate}
use Rattle.laws.specs.Choice.{pick}
use Rattle.laws.specs.Lists.{tabulate, window, sequence, cell, grid}
use Rattle.laws.specs.Bits.{bit_of, bit_at}
use Rattle.laws.proofs.Cases.{pick-cases}
use Rattle.laws.proofs.Lists.{get_d_tabulate}
use Rattle.gf256.specs.Field.{times, inverse, affine, s_box}
use Rattle.words.specs.Words.{join}
use Rattle.round_steps.specs.Steps.{byte_sub, shift_row, mixed_byte, mix_column, add_round_key}
use Rattle.schedule.specs.Schedule.{key_word, rot_byte, sub_byte, round_constant, carried, packed}
use Rattle.rijndael.specs.Cipher.{to_state, to_block, rounds, encrypted, cipher}
use Rattle.tea.specs.declared.mode.Mode.{Mode}
use Rattle.algorithms.specs.Combining.{f_tea5}
use Rattle.algorithms.specs.Algorithm.{combining, digit_of}
use Rattle.tea.specs.Mixing.{expanded_byte, mixed_value}
use Rattle.tea.specs.Mode.{mode_key, mode_value, mode_by, mode_of}
use Rattle.tea.specs.Keystream.{plaintext, block_of}
use Rattle.span.specs.Span.{stream_bit}
use Rattle.keystream.specs.Stream.{keystream}

-- the entries of a sequence from one window on
listed : (ℕ → List ℕ → ℕ) → ℕ → ℕ → List ℕ → List ℕ
listed step zero i w = []
listed step (suc n) i w = get_or w 0 0 ∷ listed step n (suc i) (drop 1 w ++ (step i w ∷ []))

listed-are : (step : ℕ → List ℕ → ℕ) (init : List ℕ) (n i : ℕ) → tabulate (sequence step init) i n ≡ listed step n i (window step init i)
unfolding tabulate sequence window listed
listed-are step init zero i = refl
listed-are step init (suc n) i = ap (λ (l : List ℕ). get_or (window step init i) 0 0 ∷ l) (listed-are step init n (suc i))

-- the schedule, the cipher and keystream bit 1, with `box` for the S-box
module _ (box : ℕ → ℕ) where
  abbrev word_after : ℕ → List ℕ → ℕ
  word_after i w =
      let x = rot_byte (get_or w 5 0) in
      let turned = join (box (x / 16777216)) (box (x / 65536 % 256)) (box (x / 256 % 256)) (box (x % 256)) in
      bit_xor (get_or w 0 0) (pick (eqb ((i + 6) % 6) 0) (bit_xor turned (round_constant ((i + 6) / 6 - 1) * 16777216)) (get_or w 5 0))

  abbrev substituted : List (List ℕ) → List (List ℕ)
  substituted s = shift_row (grid 4 8 (λ r c. box (cell s r c)))

  turns : List ℕ → List (List ℕ) → ℕ → List (List ℕ)
  turns w s zero = s
  turns w s (suc n) = add_round_key w (suc n) (mix_column (substituted (turns w s n)))

  under : List ℕ → List (List ℕ) → List (List ℕ)
  under w s = add_round_key w 14 (substituted (turns w (add_round_key w 0 s) 13))

  bit : Mode → ℕ
  bit m = bit_at (to_block (under (listed word_after 120 0 (tabulate (packed m.key) 0 6)) (to_state (plaintext m.value m.digit 0)))) 1

  bits : List ℕ
  bits = bit (mode_of 5 (replicate 24 0) (replicate 10 0)) ∷ bit (mode_of 5 (replicate 24 1) (replicate 10 0)) ∷ []

turns-are : (w : List ℕ) (s : List (List ℕ)) (n : ℕ) → rounds w s n ≡ turns s_box w s n
unfolding rounds turns byte_sub
turns-are w s zero = refl
turns-are w s (suc n) = ap (λ (t : List (List ℕ)). add_round_key w (suc n) (mix_column (substituted s_box t))) (turns-are w s n)

under-is : (w : List ℕ) (s : List (List ℕ)) → encrypted w s ≡ under s_box w s
unfolding encrypted under byte_sub
under-is w s = ap (λ (t : List (List ℕ)). add_round_key w 14 (substituted s_box t)) (turns-are w (add_round_key w 0 s) 13)

bit_is : (m : Mode) → stream_bit (block_of m) 1 ≡ bit s_box m
unfolding stream_bit block_of cipher key_word window carried sub_byte bit
bit_is m =
    let s = to_state (plaintext m.value m.digit 0) in
    ap (λ (t : List (List ℕ)). bit_at (to_block t) 1)
    (under-is _ s ∙ ap (λ (w : List ℕ). under s_box w s) (listed-are (word_after s_box) (tabulate (packed m.key) 0 6) 120 0))

-- the S-box from a table of its 256 values
look : List ℕ → ℕ → ℕ
look table x = pick (ltb x 256) (get_or table x 0) (s_box x)

look_is : (x : ℕ) → s_box x ≡ look (tabulate s_box 0 256) x
unfolding look
look_is x =
    pick-cases (λ (y : ℕ). s_box x ≡ y) (ltb x 256)
    (λ e. ap s_box (sym (zero-add x)) ∙ sym (get_d_tabulate s_box 0 256 x 0 (ltb-true x 256 e))) (λ e. refl)

computed : bits (look (tabulate s_box 0 256)) ≡ 1 ∷ 0 ∷ []
unfolding bits bit under turns listed look bit_at bit_of to_block to_state shift_row mix_column mixed_byte add_round_key grid tabulate rot_byte round_constant packed plaintext mode_of mode_by mode_key mode_value mixed_value expanded_byte sequence window combining digit_of f_tea5 s_box affine inverse times
computed = refl

-- TEA5, keystream bit 1 under a key of 24 bytes 0 and under one of 24 bytes 1, with the initial value zero
pub known : keystream 5 (replicate 24 0) (replicate 10 0) 1 ∷ keystream 5 (replicate 24 1) (replicate 10 0) 1 ∷ [] ≡ 1 ∷ 0 ∷ []
unfolding bits
known = (λ i. bit_is (mode_of 5 (replicate 24 0) (replicate 10 0)) i ∷ bit_is (mode_of 5 (replicate 24 1) (replicate 10 0)) i ∷ []) ∙ (λ i. bits (λ x. look_is x i)) ∙ computed
