-- How long the lines of a month sheet are. Assumes nothing.
use mathlib.Core.Bool.{Bool, true, false}
use mathlib.Core.List.{List, ◌++◌}
use Prim.Native.Nat.{ℕ, ◌+◌, ◌<◌, ◌≤◌, ◌/◌, ◌%◌}
use native.Mathlib.Nat.{div-le_self}
use native.Mathlib.Omega.{arith}
use lib.Dec.{eqb}
use lib.ListN.{length}
use Rattle.laws.specs.Choice.{pick}
use Rattle.writing.specs.Text.{digits, line_text, item}
use Rattle.writing.specs.Writing.{Room}
use Rattle.writing.proofs.Digits.{digits-fit, item-length, line-length}
use Rattle.shares.specs.Share.{gcd, fraction_of, share_of}
use Rattle.month_sheet.specs.Sheet.{share_text, row_text, count_text, total_text, wrong_line_text, longest_share, longest_row, longest_count, longest_total}

-- a number of 64 bits has at most 20 digits
twenty : (n : ℕ) → n < 18446744073709551616 → length (digits n) ≤ 20
twenty n h = digits-fit 19 n (omega arith)

-- a share of numbers of 64 bits is one of such numbers
share-fits : (part whole : ℕ) → part < 18446744073709551616 → whole < 18446744073709551616
    → ((share_of part whole).top < 18446744073709551616) × ((share_of part whole).bottom < 18446744073709551616)
unfolding share_of
share-fits part whole p w = go (eqb whole 0)
  where
    go : (t : Bool)
        → ((pick t (fraction_of 0 1) (fraction_of (part / gcd part whole) (whole / gcd part whole))).top < 18446744073709551616)
        × ((pick t (fraction_of 0 1) (fraction_of (part / gcd part whole) (whole / gcd part whole))).bottom < 18446744073709551616)
    go true = (omega arith, omega arith)
    go false = (omega (arith, div-le_self part (gcd part whole)), omega (arith, div-le_self whole (gcd part whole)))

-- a line of two numbers
module _ (a b : ℕ) (ha : a < 18446744073709551616) (hb : b < 18446744073709551616) where
  share-short : length (share_text a b) ≤ longest_share
  unfolding share_text
  share-short =
      omega (arith, item-length " share=" (digits a) (line_text "/" (digits b)), line-length "/" (digits b), twenty a ha, twenty b hb)

  pub count-short : length (count_text a b) ≤ longest_count
  unfolding count_text
  count-short =
      omega (arith, item-length "code=" (digits a) (line_text " count=" (digits b)), line-length " count=" (digits b), twenty a ha, twenty b hb)

pub refused-short : (n : ℕ) → n < 18446744073709551616 → length (wrong_line_text n) ≤ longest_total
unfolding wrong_line_text
refused-short n h =
    omega (arith, item-length "refused=" (digits 27) (line_text " line=" (digits n)), line-length " line=" (digits n), twenty 27 (omega arith), twenty n h)

module _ (a b c d : ℕ) (ha : a < 18446744073709551616) (hb : b < 18446744073709551616) (hc : c < 18446744073709551616) (hd : d < 18446744073709551616) where
  pub total-short : length (total_text a b c d) ≤ longest_total
  unfolding total_text
  total-short =
      let fourth = line_text " blocks=" (digits d) in
      let third = item " bits=" (digits c) ++ fourth in
      let second = item " calls=" (digits b) ++ third in
      omega (
        arith,
        item-length "lines=" (digits a) second,
        item-length " calls=" (digits b) third,
        item-length " bits=" (digits c) fourth,
        line-length " blocks=" (digits d),
        twenty a ha,
        twenty b hb,
        twenty c hc,
        twenty d hd,
      )

  pub row-short : (e all : ℕ) → e < 18446744073709551616 → all < 18446744073709551616 → length (row_text a b c d e all) ≤ longest_row
  unfolding row_text
  row-short e all he hl =
      let fits = share-fits d all hd hl in
      let sixth = share_text (share_of d all).top (share_of d all).bottom in
      let fifth = item " blocks=" (digits e) ++ sixth in
      let fourth = item " bits=" (digits d) ++ fifth in
      let third = item " calls=" (digits c) ++ fourth in
      let second = item " dir=" (digits b) ++ third in
      omega (
        arith,
        item-length "slot=" (digits a) second,
        item-length " dir=" (digits b) third,
        item-length " calls=" (digits c) fourth,
        item-length " bits=" (digits d) fifth,
        item-length " blocks=" (digits e) sixth,
        share-short (share_of d all).top (share_of d all).bottom fits.0 fits.1,
        twenty a ha,
        twenty b hb,
        twenty c hc,
        twenty d hd,
        twenty e he,
      )

-- so there is room for them
pub total-room : (buffer : List ℕ) (at a b c d : ℕ) → at + longest_total ≤ length buffer
    → a < 18446744073709551616 → b < 18446744073709551616 → c < 18446744073709551616 → d < 18446744073709551616
    → Room buffer at (total_text a b c d)
total-room buffer at a b c d h ha hb hc hd = record { fits = omega (arith, total-short a b c d ha hb hc hd) }

pub row-room : (buffer : List ℕ) (at row c d e all : ℕ) → (at + longest_row ≤ length buffer) × (row < 64)
    → c < 18446744073709551616 → d < 18446744073709551616 → e < 18446744073709551616 → all < 18446744073709551616
    → Room buffer at (row_text (row / 2 + 1) (row % 2 + 1) c d e all)
row-room buffer at row c d e all h hc hd he hl =
    record { fits = omega (arith, row-short (row / 2 + 1) (row % 2 + 1) c d (omega arith) (omega arith) hc hd e all he hl) }
