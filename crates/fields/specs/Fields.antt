-- The ranges of a slot's fields (document 01, "Slots and rights"), and refusals 10, 11 and 20 in their order. Assumes nothing: these are definitions.
use Rattle.std.specs.Prelude.{Bool, ◌&&◌, not, ℕ, leb, eqb}
use Rattle.refusals.specs.Numbers.{done, code_unknown, side_or_place_bad, network_bad, refuse}
use Rattle.fields.specs.declared.Asked.{Asked}
use Rattle.fields.specs.declared.Fields.{Fields}

abbrev pub between : ℕ → ℕ → ℕ → Bool
between low n high = leb low n && leb n high

abbrev pub is_slot_number : ℕ → Bool
is_slot_number n = between 1 n 32

abbrev pub is_algorithm : ℕ → Bool
is_algorithm a = between 5 a 7

-- TEA6 (document 02, [9]): no new key of it is loaded, and nothing is sent with one; a slot that holds one is a filled slot
abbrev pub out_of_service : ℕ → Bool
out_of_service a = eqb a 6

-- 1 send, 2 receive, 3 both
abbrev pub is_use : ℕ → Bool
is_use u = between 1 u 3

abbrev pub is_side : ℕ → Bool
is_side s = leb s 1

abbrev pub is_place : ℕ → Bool
is_place p = leb p 79

-- mobile country code and mobile network code (document 002, tables 14 and 15): 10 and 14 bits, any value
abbrev pub is_mcc : ℕ → Bool
is_mcc m = leb m 1023

abbrev pub is_mnc : ℕ → Bool
is_mnc m = leb m 16383

-- a version is 16 bits by its kind
abbrev pub all_in_range : Asked → Bool
all_in_range a = is_algorithm a.algorithm && (is_use a.usage && (is_side a.side && (is_place a.place && (is_mcc a.mcc && is_mnc a.mnc))))

abbrev pub rights_refusal : Asked → ℕ
rights_refusal a =
    refuse (not (is_use a.usage)) code_unknown
    (refuse (not (is_side a.side && is_place a.place)) side_or_place_bad
    (refuse (not (is_mcc a.mcc && is_mnc a.mnc)) network_bad
    done))

-- the same numbers, as a slot holds them
abbrev pub stored_of : Asked → Fields
stored_of a = record {
  version = a.version;
  algorithm = a.algorithm;
  usage = a.usage;
  side = a.side;
  place = a.place;
  mcc = a.mcc;
  mnc = a.mnc;
}

-- the same numbers, as a caller gives them
abbrev pub asked_of : Fields → Asked
asked_of f = record {
  version = f.version;
  algorithm = f.algorithm;
  usage = f.usage;
  side = f.side;
  place = f.place;
  mcc = f.mcc;
  mnc = f.mnc;
}

-- zero in every field
abbrev pub no_fields : Fields
no_fields = record { version = 0; algorithm = 0; usage = 0; side = 0; place = 0; mcc = 0; mnc = 0 }
