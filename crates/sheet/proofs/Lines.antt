-- The lines of a listing but those of its slots: how long they are, and one slot more. Assumes nothing.
use mathlib.Core.Path.{◌≡◌, refl}
use Rattle.std.specs.List.{count_by}
use Rattle.std.proofs.lemmas.List.Recursion.{is_sum_by}
use Rattle.std.proofs.lemmas.List.Sums.{count_by-le-length}
use mathlib.Core.Bool.{Bool, true, false, cond}
use mathlib.Core.List.{List, ◌++◌}
use Prim.Native.Nat.{ℕ, ◌+◌, ◌^◌, ◌<◌, ◌≤◌}
use native.Mathlib.Omega.{arith}
use lib.ListN.{length}
use borrow.Author.Tests.{eq-eqb, ne_eqb}
use Rattle.laws.specs.Choice.{pick}
use Rattle.refusals.specs.Numbers.{done}
use Rattle.slots.specs.declared.Slot.{Slot}
use Rattle.slots.specs.Slots.{is_filled}
use Rattle.writing.specs.Writing.{Room}
use Rattle.writing.specs.Text.{digits, line_text, item}
use Rattle.writing.proofs.Digits.{digits-fit, item-length, line-length}
use Rattle.loading.specs.Loading.{Loaded}
use Rattle.sheet.specs.Sheet.{filled_count, table_text, refusal_text, loaded_text, room}
use Rattle.slot_lines.specs.Lines.{slot_lines}

pub refusal-length : (refusal position line column : ℕ) → length (refusal_text refusal position line column)
    ≡ length (digits refusal) + (length (digits position) + (length (digits line) + (length (digits column) + 31)))
unfolding refusal_text
refusal-length refusal position line column =
    let fourth = line_text " column=" (digits column) in
    let third = item " line=" (digits line) ++ fourth in
    omega (
      arith,
      item-length "refused=" (digits refusal) (item " record=" (digits position) ++ third),
      item-length " record=" (digits position) third,
      item-length " line=" (digits line) fourth,
      line-length " column=" (digits column),
    )

-- a number of 64 bits has at most 20 digits
pub refusal-short : (refusal position line column : ℕ) → refusal < 256 → position < 2 ^ 64 → line < 2 ^ 64 → column < 2 ^ 64 → length (refusal_text refusal position line column) ≤ room
refusal-short refusal position line column r p l c =
    omega (
      arith,
      refusal-length refusal position line column,
      digits-fit 2 refusal (omega arith),
      digits-fit 19 position (omega arith),
      digits-fit 19 line (omega arith),
      digits-fit 19 column (omega arith),
    )

pub refusal-room : (b : List ℕ) (refusal position line column : ℕ) → room ≤ length b → refusal < 256 → position < 2 ^ 64 → line < 2 ^ 64 → column < 2 ^ 64
    → Room b 0 (refusal_text refusal position line column)
refusal-room b refusal position line column h r p l c = record { fits = omega (arith, refusal-short refusal position line column r p l c) }

pub header-short : length (line_text "table=" (digits 32)) ≤ 9
header-short = omega (arith, line-length "table=" (digits 32), digits-fit 1 32 (omega arith))

pub count-short : (count : ℕ) → count ≤ 32 → length (line_text "filled=" (digits count)) ≤ 10
count-short count h = omega (arith, line-length "filled=" (digits count), digits-fit 1 count (omega arith))

-- the library's count
pub filled_by : (table : List Slot) → filled_count table ≡ count_by is_filled table
unfolding filled_count
filled_by table = is_sum_by filled_count (λ slot. cond (is_filled slot) 1 0) refl (λ slot rest. one (is_filled slot) (filled_count rest)) table
  where
    one : (t : Bool) (n : ℕ) → pick t 1 0 + n ≡ cond t 1 0 + n
    one true n = refl
    one false n = refl

pub count-high : (table : List Slot) → filled_count table ≤ length table
count-high table = omega (arith, filled_by table, count_by-le-length is_filled table)

-- the whole text

pub table-text : (table : List Slot) {size count : ℕ} → size ≡ length table → count ≡ filled_count table
    → line_text "table=" (digits size) ++ (slot_lines 1 table ++ line_text "filled=" (digits count)) ≡ table_text table
unfolding table_text
table-text table e h = λ i. line_text "table=" (digits (e i)) ++ (slot_lines 1 table ++ line_text "filled=" (digits (h i)))

module _ (l : Loaded) where
  pub text-loaded : l.refusal ≡ done → loaded_text l ≡ table_text l.table
  unfolding loaded_text
  text-loaded e = rw (eq-eqb l.refusal done e)

  pub text-refused : (l.refusal ≡ done → ⊥) → loaded_text l ≡ refusal_text l.refusal l.position l.line l.column
  unfolding loaded_text
  text-refused n = rw (ne_eqb l.refusal done n)
