-- A list of pairs, as it is checked against two tables of records (document 02, [11]). It is flat: before number, after number, and so on.
-- Assumes nothing: these are definitions.
use Rattle.std.specs.Prelude.{Bool, true, false, ◌&&◌, ◌||◌, not, List, ℕ, zero, suc, ◌+◌, ◌*◌, ◌/◌, ◌%◌, eqb, length, get_or}
use Rattle.laws.specs.Choice.{pick}
use Rattle.slots.specs.declared.Slot.{Slot}
use Rattle.slots.specs.Slots.{is_filled}
use Rattle.slot_calls.specs.Seen.{slot_as}
use Rattle.agreement.specs.Agreement.{agrees}

-- an odd count leaves the last pair without its after number
abbrev pub pair_count : List ℕ → ℕ
pair_count pairs = length pairs / 2 + length pairs % 2

abbrev pub most_pairs : ℕ
most_pairs = 32

-- the numbers of pair i, counted from 0. One that is missing counts as 0, which is no record's number

abbrev pub before_side : ℕ
before_side = 0

abbrev pub after_side : ℕ
after_side = 1

abbrev pub number_on : ℕ → List ℕ → ℕ → ℕ
number_on side pairs i = get_or pairs (2 * i + side) 0

-- one of the first i pairs names the number on a side
unfoldable pub named_on : ℕ → List ℕ → ℕ → ℕ → Bool
named_on side pairs n zero = false
named_on side pairs n (suc i) = named_on side pairs n i || eqb (number_on side pairs i) n

abbrev pub is_there : List Slot → ℕ → Bool
is_there table n = is_filled (slot_as table n)

-- the number of pair i on a side is not there, or an earlier pair names it on that side
unfoldable pub misnames_on : ℕ → List Slot → List ℕ → ℕ → Bool
misnames_on side table pairs i = not (is_there table (number_on side pairs i)) || named_on side pairs (number_on side pairs i) i

unfoldable pub misnames : List Slot → List Slot → List ℕ → ℕ → Bool
misnames before after pairs i = misnames_on before_side before pairs i || misnames_on after_side after pairs i

-- pair i widens its use, or differs in another field or the key
unfoldable pub differs : List Slot → List Slot → List ℕ → ℕ → Bool
differs before after pairs i = not (agrees (slot_as before (number_on before_side pairs i)) (slot_as after (number_on after_side pairs i)))

-- of the n pairs from pair i on, the place of the first for which a test holds, counted from 1; 0 where it holds for none
unfoldable pub first_from : (ℕ → Bool) → ℕ → ℕ → ℕ
first_from test i zero = 0
first_from test i (suc n) = pick (test i) (i + 1) (first_from test (i + 1) n)

-- which fault of pair i is looked for: that it misnames, or that it differs
abbrev pub faulty : Bool → List Slot → List Slot → List ℕ → ℕ → Bool
faulty naming before after pairs i = pick naming (misnames before after pairs i) (differs before after pairs i)

unfoldable pub first_faulty : Bool → List Slot → List Slot → List ℕ → ℕ
first_faulty naming before after pairs = first_from (faulty naming before after pairs) 0 (pair_count pairs)

abbrev pub first_misnaming : List Slot → List Slot → List ℕ → ℕ
first_misnaming = first_faulty true

abbrev pub first_differing : List Slot → List Slot → List ℕ → ℕ
first_differing = first_faulty false

-- the number is an after record's, and no pair names it
unfoldable pub left_out : List Slot → List ℕ → ℕ → Bool
left_out after pairs n = is_there after n && not (named_on after_side pairs n (pair_count pairs))

-- so is one of the first n numbers
unfoldable pub leaves_out : List Slot → List ℕ → ℕ → Bool
leaves_out after pairs zero = false
leaves_out after pairs (suc n) = leaves_out after pairs n || left_out after pairs (n + 1)
