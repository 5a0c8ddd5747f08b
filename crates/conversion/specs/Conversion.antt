-- What the check of a conversion answers: refusals 22, 23, 24 in this order, and the place of the pair (document 02, [11]).
-- Assumes nothing: these are definitions.
use Rattle.std.specs.Prelude.{◌&&◌, List, ℕ, eqb, ltb}
use Rattle.laws.specs.Choice.{pick}
use Rattle.refusals.specs.Numbers.{done, conversion_text_bad, pair_list_bad, pair_differs}
use Rattle.slots.specs.declared.Slot.{Slot}
use Rattle.gathering.specs.Gathering.{gathered}
use Rattle.conversion_pairs.specs.Pairs.{pair_count, most_pairs, first_misnaming, first_differing, leaves_out}

-- a refusal, and the place of the pair that it names, counted from 1; 0 where it names none
pub record Checked : Type 0 where
  pub refusal : ℕ
  pub place : ℕ

abbrev pub checked_as : ℕ → ℕ → Checked
checked_as refusal place = record { refusal = refusal; place = place }

abbrev pub passes : Checked
passes = checked_as done 0

-- a refusal that names a pair, where there is a place
abbrev pub naming : ℕ → ℕ → Checked → Checked
naming refusal place later = pick (eqb place 0) later (checked_as refusal place)

-- 23: above 32 pairs; the first pair that names a number not there or already named on its side; an after record without a pair
unfoldable pub names_checked : List Slot → List Slot → List ℕ → Checked
names_checked before after pairs =
    pick (ltb most_pairs (pair_count pairs)) (checked_as pair_list_bad 0)
    (naming pair_list_bad (first_misnaming before after pairs)
    (pick (leaves_out after pairs 32) (checked_as pair_list_bad 0)
    passes))

-- 24: the first pair that widens or differs
unfoldable pub rights_checked : List Slot → List Slot → List ℕ → Checked
rights_checked before after pairs = naming pair_differs (first_differing before after pairs) passes

-- the first check that refuses
abbrev pub firstly : Checked → Checked → Checked
firstly first later = pick (eqb first.refusal done) later first

unfoldable pub pairs_checked : List Slot → List Slot → List ℕ → Checked
pairs_checked before after pairs = firstly (names_checked before after pairs) (rights_checked before after pairs)

-- 22: a text that does not read, or repeats a number; then the pairs
unfoldable pub conversion_checked : List ℕ → List ℕ → List ℕ → Checked
conversion_checked before after pairs =
    pick ((gathered before).good && (gathered after).good)
    (pairs_checked (gathered before).table (gathered after).table pairs)
    (checked_as conversion_text_bad 0)
