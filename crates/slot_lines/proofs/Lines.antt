-- The lines of a listing's slots: how long they are, and one slot more. Assumes nothing.
use mathlib.Core.Path.{◌≡◌}
use mathlib.Core.Bool.{true, false}
use mathlib.Core.List.{List, [], ◌++◌}
use Prim.Native.Nat.{ℕ, ◌+◌, ◌<◌, ◌≤◌}
use native.Mathlib.Numerals.{add-one}
use native.Mathlib.Omega.{arith}
use lib.ListN.{length, get_or, drop, drop_of_length-le}
use lib.Seq.{drop-cons}
use Rattle.algorithms.specs.Algorithm.{name_of}
use Rattle.fields.specs.Fields.{all_in_range, asked_of}
use Rattle.fields.specs.declared.Fields.{Fields}
use Rattle.fields.proofs.Ranges.{side-high, place-high, mcc-high, mnc-high}
use Rattle.slots.specs.declared.Slot.{Slot}
use Rattle.slots.specs.Slots.{nil, is_filled}
use Rattle.writing.specs.Writing.{Room}
use Rattle.writing.specs.Text.{digits, line_text, item}
use Rattle.record_text.specs.Text.{use_word}
use Rattle.writing.proofs.Digits.{length-one, digits-fit, item-length, line-length}
use Rattle.record_text.proofs.Lengths.{name-length, use-length}
use Rattle.slot_lines.specs.Lines.{slot_line, slot_text, slot_lines, longest_line}

pub line-short : (number : ℕ) (f : Fields) → number ≤ 32 → f.version ≤ 65535 → all_in_range (asked_of f) ≡ true → length (slot_line number f) ≤ longest_line
unfolding slot_line
line-short number f n v r =
    let eighth = line_text " mnc=" (digits f.mnc) in
    let seventh = item " mcc=" (digits f.mcc) ++ eighth in
    let sixth = item " place=" (digits f.place) ++ seventh in
    let fifth = item " side=" (digits f.side) ++ sixth in
    let fourth = item " use=" (use_word f.usage) ++ fifth in
    let third = item " alg=" (name_of f.algorithm) ++ fourth in
    let second = item " version=" (digits f.version) ++ third in
    omega (
      arith,
      item-length "number=" (digits number) second,
      item-length " version=" (digits f.version) third,
      item-length " alg=" (name_of f.algorithm) fourth,
      item-length " use=" (use_word f.usage) fifth,
      item-length " side=" (digits f.side) sixth,
      item-length " place=" (digits f.place) seventh,
      item-length " mcc=" (digits f.mcc) eighth,
      line-length " mnc=" (digits f.mnc),
      digits-fit 1 number (omega arith),
      digits-fit 4 f.version (omega arith),
      name-length f.algorithm,
      use-length f.usage,
      length-one f.side (omega (arith, side-high (asked_of f) r)),
      digits-fit 1 f.place (omega (arith, place-high (asked_of f) r)),
      digits-fit 3 f.mcc (omega (arith, mcc-high (asked_of f) r)),
      digits-fit 4 f.mnc (omega (arith, mnc-high (asked_of f) r)),
    )

-- what a buffer with room for the longest line has room for
pub line-room : (b : List ℕ) (at number : ℕ) (f : Fields) → (at + longest_line ≤ length b) × (number ≤ 32) × (all_in_range (asked_of f) ≡ true) → f.version ≤ 65535 → Room b at (slot_line number f)
line-room b at number f pre v = record { fits = omega (arith, pre.0, line-short number f pre.1 v pre.2) }

-- the text of a slot that is filled, and of one that is not

module _ (number : ℕ) (slot : Slot) where
  pub filled-text : is_filled slot ≡ true → slot_text number slot ≡ slot_line number slot.fields
  filled-text e = rw e

  pub empty-text : is_filled slot ≡ false → slot_text number slot ≡ []
  empty-text e = rw e

-- of a table, i slots are passed

module _ (table : List Slot) (i : ℕ) where
  pub lines_next : i < length table → slot_lines (i + 1) (drop i table) ≡ slot_text (i + 1) (get_or table i nil) ++ slot_lines (i + 1 + 1) (drop (i + 1) table)
  unfolding slot_lines
  lines_next h = rw (add-one i, drop-cons table i nil h)

  pub lines_none : length table ≤ i → slot_lines (i + 1) (drop i table) ≡ []
  unfolding slot_lines
  lines_none h = rw (drop_of_length-le table h)
