-- `listing::put_table`: the header, the slots and the count, which all have room. Assumes nothing.
use mathlib.Core.Path.{◌≡◌, sym}
use mathlib.Core.List.{List}
use Prim.Native.Nat.{ℕ, ◌≤◌}
use native.Mathlib.Omega.{arith}
use lib.ListN.{length}
use Rattle.slots.specs.declared.Slot.{Slot}
use Rattle.sheet.specs.Sheet.{filled_count}
use Rattle.writing.proofs.Puts.{put_as, put_then, put-length}
use Rattle.sheet.proofs.Lines.{header-short, count-short, count-high, table-text}
use Rattle.sheet.proofs.listing.put_table.Goals as goal

few : (table : List Slot) (n : ℕ) → n ≡ filled_count table → 32 ≡ length table → n ≤ 32
few table n e size = omega (arith, count-high table)

pub put_line-slots-requires : goal.put_line-slots-requires
put_line-slots-requires c = record { fits = omega (arith, header-short) }

pub put_slots-last-requires : goal.put_slots-last-requires
put_slots-last-requires c =
    let put = c.put_line-slots.ensures in
    omega (arith, header-short, put.ends, put-length put)

pub put_line-requires : goal.put_line-requires
put_line-requires c =
    let first = c.put_line-slots.ensures in
    let second = c.put_slots-last.ensures in
    record {
      fits =
          omega (
            arith,
            header-short,
            first.ends,
            put-length first,
            second.0,
            put-length second.1,
            count-short _ (few c.args.table _ c.count_filled-count.ensures (sym c.well_formed.1.0.1.0.1)),
          );
    }

pub returns : goal.returns
returns c =
    let size : 32 ≡ length c.args.table =
    sym c.well_formed.1.0.1.0.1
    in
    let first = c.put_line-slots.ensures in
    let second = c.put_slots-last.ensures in
    let third = c.put_line.ensures in (
      omega (arith, header-short, first.ends, second.0, third.ends, count-short _ (few c.args.table _ c.count_filled-count.ensures size)),
      put_as (table-text _ size c.count_filled-count.ensures) (put_then first (put_then second.1 third)),
    )

pub shape_of-buffer : goal.shape_of-buffer
shape_of-buffer c = put-length (returns c).1
