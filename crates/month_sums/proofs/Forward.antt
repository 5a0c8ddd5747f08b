-- A good line, fed from its first byte to its LF, is one line more. Assumes nothing.
use mathlib.Core.Bool.{Bool, true, false, ◌&&◌}
use mathlib.Core.Logic.{⊎_elim}
use mathlib.Core.List.{List, [], ◌∷◌, ◌++◌, append_assoc}
use mathlib.Core.Path.{◌≡◌, refl, sym, ap, subst, ◌∙◌}
use Prim.Native.Nat.{ℕ, zero, suc, ◌+◌, ◌-◌, ◌*◌, ◌/◌, ◌%◌, ◌≤◌, ◌<◌}
use native.Mathlib.Omega.{arith}
use lib.Dec.{eqb, leb}
use borrow.Author.Tests.{eq-eqb, ne_eqb, le-leb, lt-leb}
use Rattle.laws.proofs.Cases.{lt-or-le}
use Rattle.forms.specs.Decimals.{may_begin, may_follow}
use Rattle.forms.proofs.Decimals.{begin-is, follow-is, follow-yes, between_is}
use Rattle.writing.specs.Text.{ascii, lf, digits, item, line_text}
use Rattle.writing.proofs.Digits.{digits-one, digits-ten}
use Rattle.logged_calls.specs.declared.Call.{Call}
use Rattle.call_log.specs.declared.Month.{Month}
use Rattle.logged_calls.specs.Log.{GoodCall, call_text, is_sound, most_lines}
use Rattle.logged_calls.specs.Figures.{added}
use Rattle.call_log.specs.Fed.{Fed, fed_to, fed, fed_byte, line_start, so_far, in_number, next_part, high_of, name_byte, part_name, in_line, after_digit, first_digit, of_name, ends_line, ended, taken, call_of}
use Rattle.call_log.proofs.Feeds.{fed-append}
use Rattle.call_log.proofs.Bytes.{byte-ends, byte-in, picked}

-- so far into a part of a line, with the four numbers before it
abbrev at : ℕ → ℕ → ℕ → ℕ → ℕ → ℕ → ℕ → ℕ → Month
at line part place number a b c d =
    record { line = line; good = true; part = part; at = place; number = number; first = a; second = b; third = c; fourth = d }

module _ (line part a b c d : ℕ) (figures : List ℕ) where
  abbrev st : ℕ → ℕ → Fed
  st place number = fed_to (at line part place number a b c d) figures

  -- a byte that is no LF does not end a line
  not_end : (place number x : ℕ) → (x ≡ 10 → ⊥) → ends_line (at line part place number a b c d) x ≡ false
  unfolding ends_line
  not_end place number x n = rw (ne_eqb x 10 n)

  -- the first digit of a number
  first-digit : (place n : ℕ) → place < 9 → name_byte part place ≡ 0 → n < 10 → n ≤ high_of part → fed_byte (st place 0) (48 + n) ≡ st in_number n
  unfolding in_line first_digit may_begin
  first-digit place n h e l m =
      let z : 48 + n - 48 ≡ n = omega arith in
      byte-in (st place 0) (48 + n) refl (not_end place 0 (48 + n) (λ e. omega arith))
      ∙ ap (λ (m : Month). fed_to m figures) (go ∙ ap (so_far (at line part place 0 a b c d) in_number) z)
    where
      begins : may_begin 0 (high_of part) (48 + n) ≡ true
      begins = rw (between_is 48 (48 + n) 57 (omega arith) (omega arith)) (between_is 0 (48 + n - 48) (high_of part) (omega arith) (omega arith))

      go : in_line (at line part place 0 a b c d) (48 + n) ≡ so_far (at line part place 0 a b c d) in_number (48 + n - 48)
      go = rw (lt-leb 9 place h, eq-eqb (name_byte part place) 0 e, begins)

  -- one more
  next-digit : (m n : ℕ) → n < 10 → 0 < m → m * 10 + n ≤ high_of part → fed_byte (st in_number m) (48 + n) ≡ st in_number (m * 10 + n)
  unfolding in_line after_digit
  next-digit m n l h k =
      let z : 48 + n - 48 ≡ n = omega arith in
      byte-in (st in_number m) (48 + n) refl (not_end in_number m (48 + n) (λ e. omega arith))
      ∙ ap (λ (m : Month). fed_to m figures) (go ∙ ap (λ (x : ℕ). so_far (at line part in_number m a b c d) in_number (m * 10 + x)) z)
    where
      go : in_line (at line part in_number m a b c d) (48 + n) ≡ so_far (at line part in_number m a b c d) in_number (m * 10 + (48 + n - 48))
      go = rw (follow-yes (high_of part) m n l h k)

  number-within : (k place n : ℕ) → n ≤ k → place < 9 → name_byte part place ≡ 0 → n ≤ high_of part → fed (st place 0) (digits n) ≡ st in_number n
  unfolding fed
  number-within zero place n g h e m = ap (fed (st place 0)) (digits-one n (omega arith)) ∙ first-digit place n h e (omega arith) m
  number-within (suc k) place n g h e m =
      ⊎_elim (λ l. ap (fed (st place 0)) (digits-one n l) ∙ first-digit place n h e l m)
      (λ l.
      let z : n / 10 * 10 + n % 10 ≡ n = omega arith in
      ap (fed (st place 0)) (digits-ten n l)
      ∙ (fed-append (st place 0) (digits (n / 10)) ((48 + n % 10) ∷ [])
      ∙ (ap (λ (f : Fed). fed_byte f (48 + n % 10)) (number-within k place (n / 10) (omega arith) h e (omega arith))
      ∙ (next-digit (n / 10) (n % 10) (omega arith) (omega arith) (omega arith) ∙ ap (st in_number) z))))
      (lt-or-le n 10)

  -- a number behind its part's name
  number-fed : (place n : ℕ) (rest : List ℕ) → place < 9 → name_byte part place ≡ 0 → n ≤ high_of part
      → fed (st place 0) (digits n ++ rest) ≡ fed (st in_number n) rest
  number-fed place n rest h e m =
      fed-append (st place 0) (digits n) rest ∙ ap (λ (f : Fed). fed f rest) (number-within n place n (omega arith) h e m)

-- a name, from the byte before it on

module _ (line : ℕ) (figures rest : List ℕ) where
  slot-fed : fed (fed_to (line_start line) figures) (ascii "slot=" ++ rest) ≡ fed (fed_to (at line 0 5 0 0 0 0 0) figures) rest
  unfolding fed fed_byte ends_line in_line of_name name_byte part_name
  slot-fed = refl

  module _ (n a b c d : ℕ) where
    dir-fed : fed (fed_to (at line 0 in_number n a b c d) figures) (ascii " dir=" ++ rest) ≡ fed (fed_to (at line 1 5 0 b c d n) figures) rest
    unfolding fed fed_byte ends_line in_line after_digit of_name name_byte part_name may_follow
    dir-fed = refl

    bits-fed : fed (fed_to (at line 1 in_number n a b c d) figures) (ascii " bits=" ++ rest) ≡ fed (fed_to (at line 2 6 0 b c d n) figures) rest
    unfolding fed fed_byte ends_line in_line after_digit of_name name_byte part_name may_follow
    bits-fed = refl

    blocks-fed : fed (fed_to (at line 2 in_number n a b c d) figures) (ascii " blocks=" ++ rest) ≡ fed (fed_to (at line 3 8 0 b c d n) figures) rest
    unfolding fed fed_byte ends_line in_line after_digit of_name name_byte part_name may_follow
    blocks-fed = refl

    code-fed : fed (fed_to (at line 3 in_number n a b c d) figures) (ascii " code=" ++ rest) ≡ fed (fed_to (at line 4 6 0 b c d n) figures) rest
    unfolding fed fed_byte ends_line in_line after_digit of_name name_byte part_name may_follow
    code-fed = refl

    end-fed : fed (fed_to (at line 4 in_number n a b c d) figures) (lf ∷ []) ≡ ended (at line 4 in_number n a b c d) figures
    unfolding fed fed_byte ends_line
    end-fed = refl

-- a line that is taken
ended-good : (m : Month) (figures : List ℕ) → m.line ≤ most_lines → is_sound (call_of m) ≡ true
    → ended m figures ≡ fed_to (line_start (m.line + 1)) (added figures (call_of m))
unfolding ended taken
ended-good m figures h e = rw (le-leb m.line most_lines h, e)

pub line-fed : (c : Call) (line : ℕ) (figures : List ℕ) → GoodCall c → line ≤ most_lines
    → fed (fed_to (line_start line) figures) (call_text c) ≡ fed_to (line_start (line + 1)) (added figures c)
unfolding call_text high_of name_byte part_name
line-fed c line figures g h =
    let s : ℕ = c.slot in
    let d : ℕ = c.direction in
    let b : ℕ = c.bits in
    let k : ℕ = c.blocks in
    slot-fed line figures _
    ∙ (number-fed line 0 0 0 0 0 figures 5 s _ (omega arith) refl g.form.slot
    ∙ (dir-fed line figures _ s 0 0 0 0
    ∙ (number-fed line 1 0 0 0 s figures 5 d _ (omega arith) refl g.form.direction
    ∙ (bits-fed line figures _ d 0 0 0 s
    ∙ (number-fed line 2 0 0 s d figures 6 b _ (omega arith) refl g.form.bits
    ∙ (blocks-fed line figures _ b 0 0 s d
    ∙ (number-fed line 3 0 s d b figures 8 k _ (omega arith) refl g.form.blocks
    ∙ (code-fed line figures _ k 0 s d b
    ∙ (number-fed line 4 s d b k figures 6 c.code (lf ∷ []) (omega arith) refl g.form.code
    ∙ (end-fed line figures [] c.code s d b k
    ∙ ended-good (at line 4 in_number c.code s d b k) figures h g.sound))))))))))
