-- What our own card makes of records by moves and clears is never refused by the check of a conversion. Assumes nothing.
--   moves-pass: from any table of 32 slots without a bad one, against the records of that table
--   gathered-moves-pass: from the table that a text of records gathers to, against that text
--   loaded-moves-pass: from the table that a sheet loads, against that sheet
-- Each holds for every list of calls without a load, refused ones among them, and after every number of its calls: with i the length of the list, at
-- its end. TEA6 is an algorithm like the others here.
use mathlib.Core.Path.{◌≡◌, sym, ap, subst}
use mathlib.Core.Bool.{true, false}
use mathlib.Core.List.{List}
use Prim.Native.Nat.{ℕ}
use Rattle.refusals.specs.Numbers.{done}
use Rattle.slots.specs.declared.Slot.{Slot}
use Rattle.two_runs.specs.Calls.{Call}
use Rattle.loading.specs.Loading.{load_all}
use Rattle.gathering.specs.Gathering.{Gathered}
use Rattle.gathering.specs.Gathering.{gathered}
use Rattle.conversions.specs.Conforms.{Known}
use Rattle.conversions.proofs.Tables.{held, text-known, known-gathered}
use Rattle.conversions.proofs.Exact.{converts-accepted}
use Rattle.kept_rights.specs.Left.{entries_of, entries_text, has_load, SoundTable}
use Rattle.kept_rights.specs.Passes.{Passes}
use Rattle.kept_rights.proofs.Records.{of-table, in_table, records-once, entry-good, text-reads}
use Rattle.kept_rights.proofs.Kept.{kept-converts}
use Rattle.kept_rights.proofs.Gathered.{held-good, held-listed, loaded-gathers}

module _ (start : List Slot) (sound : SoundTable start) where
  own-known : Known (entries_text (entries_of start))
  own-known = record {
    records = entries_of start;
    reads =
        text-reads (entries_of start)
        (λ e m. let t = of-table start sound.size e m in entry-good start e t (sound.kind e.number t.numbered));
    once = records-once 1 start;
  }

  pub moves-pass : (cs : List Call) → has_load cs ≡ false → Passes (entries_text (entries_of start)) start cs
  unfolding own-known
  moves-pass cs loadless i =
      converts-accepted _ _ _ (kept-converts start sound.size sound.good cs loadless i _ own-known (in_table start sound.size))

pub gathered-moves-pass : (text : List ℕ) → (gathered text).good ≡ true → (cs : List Call) → has_load cs ≡ false → Passes text (gathered text).table cs
gathered-moves-pass text good cs loadless =
    let known = text-known text good in
    let table = held-good text known in
    subst (λ (start : List Slot). Passes text start cs) (sym (ap (λ (g : Gathered). g.table) (known-gathered text known)))
    (λ i. converts-accepted _ _ _ (kept-converts (held text known) table.size table.sound cs loadless i text known (held-listed text known)))

pub loaded-moves-pass : (sheet : List ℕ) → (load_all sheet).refusal ≡ done → (cs : List Call) → has_load cs ≡ false → Passes sheet (load_all sheet).table cs
loaded-moves-pass sheet loads cs loadless =
    let same = loaded-gathers sheet loads in
    subst (λ (start : List Slot). Passes sheet start cs) (ap (λ (g : Gathered). g.table) same)
    (gathered-moves-pass sheet (ap (λ (g : Gathered). g.good) same) cs loadless)
