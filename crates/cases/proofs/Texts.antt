-- Which text answers a line, and how long it is. Assumes nothing.
use mathlib.Core.Bool.{true, false}
use mathlib.Core.List.{List, [], ◌∷◌, ◌++◌}
use mathlib.Core.Path.{◌≡◌, sym, ap}
use Prim.Native.Nat.{ℕ, ◌+◌, ◌/◌, ◌≤◌}
use native.Mathlib.Omega.{arith}
use lib.ListN.{length, length-append}
use borrow.Author.Tests.{eq-eqb, ne_eqb}
use Rattle.laws.proofs.Lists.{length-tabulate}
use Rattle.span.specs.Span.{longest_buffer}
use Rattle.span.proofs.Laws.{length-xored}
use Rattle.tea.specs.Mixing.{mixed_value}
use Rattle.tea.specs.Mode.{mode_key, mode_value, mode_by, mode_of}
use Rattle.writing.specs.Text.{lf, digits, hex_text}
use Rattle.writing.specs.Writing.{Room, Put}
use Rattle.writing.proofs.Puts.{put-length, length-hex}
use Rattle.writing.proofs.Digits.{digits-fit, line-length}
use Rattle.lines.specs.Line.{space, index_of, up_to}
use Rattle.case_reader.specs.Case.{Case, last_part, is_readable, case_of, refusal_of, Accepted}
use Rattle.cases.specs.Answer.{value_text, mode_text, ciphered_case, buffer_text, accepted_text, refused_text, unreadable_text, case_text, answer_text, answer_room}
use Rattle.case_reader.proofs.Passed.{passed, buffer-small}

module _ (line : List ℕ) where
  pub text-unreadable : is_readable line ≡ false → unreadable_text ≡ case_text line
  unfolding case_text
  text-unreadable e = rw e

  pub text-refused : is_readable line ≡ true → (refusal_of (case_of line) ≡ 0 → ⊥) → refused_text (refusal_of (case_of line)) ≡ case_text line
  unfolding case_text
  text-refused e n = rw (e, ne_eqb (refusal_of (case_of line)) 0 n)

  pub text-accepted : Accepted line → accepted_text (case_of line) ≡ case_text line
  unfolding case_text
  text-accepted a = rw (a.readable, eq-eqb (refusal_of (case_of line)) 0 a.passed)

module _ (s : List ℕ) where
  pub text-cut : index_of lf s ≡ length s → unreadable_text ≡ answer_text s
  unfolding answer_text
  text-cut e = rw (eq-eqb (index_of lf s) (length s) e)

  pub text-line : (index_of lf s ≡ length s → ⊥) → case_text (up_to lf s) ≡ answer_text s
  unfolding answer_text
  text-line n = rw (ne_eqb (index_of lf s) (length s) n)

pub value-length : (l : List ℕ) → length l ≡ 24 → length (value_text l) ≡ 49
value-length l e = omega (arith, length-append (hex_text l) (space ∷ []), length-hex l)

pub value-room : (b : List ℕ) (at : ℕ) (l : List ℕ) → at + 49 ≤ length b → length l ≡ 24 → Room b at (value_text l)
value-room b at l h e = record { fits = omega (arith, value-length l e) }

pub mode-length : (algorithm : ℕ) (key iv : List ℕ) → length (mode_text algorithm key iv) ≡ 147
unfolding mode_text mixed_value mode_of mode_by mode_key mode_value
mode-length algorithm key iv =
    let mixed = mixed_value iv in
    let k = (mode_of algorithm key iv).key in
    let v = (mode_of algorithm key iv).value in
    omega (
      arith,
      length-append (value_text mixed) (value_text k ++ value_text v),
      length-append (value_text k) (value_text v),
      value-length mixed (length-tabulate _ 0 24),
      value-length k (length-tabulate _ 0 24),
      value-length v (length-tabulate _ 0 24),
    )

-- the text of a buffer that is ciphered
pub ciphered-text : (line : List ℕ) {buf : List ℕ} → buf ≡ ciphered_case (case_of line) → buffer_text (case_of line) ≡ hex_text buf ++ (lf ∷ [])
ciphered-text line e = ap (λ (l : List ℕ). hex_text l ++ (lf ∷ [])) (sym e)

ciphered-length : (c : Case) → length (ciphered_case c) ≡ length c.buffer
unfolding ciphered_case
ciphered-length c = length-xored c.buffer _ c.start c.skip c.bits

-- an accepted case's answer fits: the buffer after three values, and so the whole
module _ {line : List ℕ} (a : Accepted line) where
  -- the buffer lies within the longest
  pub inside : {n size : ℕ} → n ≡ length (last_part line) / 2 → size ≡ longest_buffer → n ≤ size
  inside e h = omega (arith, buffer-small a)

  pub buffer-fits : 147 + length (buffer_text (case_of line)) ≤ answer_room
  buffer-fits =
      let text = ciphered_case (case_of line) in
      omega (arith, length-append (hex_text text) (lf ∷ []), length-hex text, ciphered-length (case_of line), (passed a).span.small)

  pub accepted-fits : length (accepted_text (case_of line)) ≤ answer_room
  unfolding accepted_text
  accepted-fits =
      let c = case_of line in
      let mode = mode_text c.algorithm c.key c.iv in
      omega (arith, length-append mode (buffer_text c), mode-length c.algorithm c.key c.iv, buffer-fits)

-- a refusal is a byte
pub refused-fits : (refusal : ℕ) → refusal ≤ 255 → length (refused_text refusal) ≤ answer_room
refused-fits refusal h =
    omega (arith, line-length "refused=" (digits refusal), digits-fit 2 refusal (omega arith))

-- what a caller knows of its buffer after an answer
pub answered : {b b' t : List ℕ} {n : ℕ} → (n ≤ answer_room) × Put b 0 t b' n → answer_room ≤ length b → (length b' ≡ length b) × (n ≤ length b')
answered {b} {b'} {t} {n} p h = let e = put-length p.1 in (e, omega (arith, p.0))
