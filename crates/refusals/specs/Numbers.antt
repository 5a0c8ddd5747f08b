-- The numbers that an engineer sees, under their names (document 01, "Numbers an engineer sees"). Assumes nothing: these are definitions.
use Rattle.std.specs.Prelude.{Bool, ℕ}
use Rattle.laws.specs.Choice.{pick}

-- done
abbrev pub done : ℕ
done = 0

-- algorithm not 5, 6, 7
abbrev pub algorithm_unknown : ℕ
algorithm_unknown = 1

-- bench key not 24 bytes
abbrev pub bench_key_not24 : ℕ
bench_key_not24 = 2

-- IV not 10 bytes
abbrev pub iv_not10 : ℕ
iv_not10 = 3

-- length 0, or skip + length above 8,288
abbrev pub length_bad : ℕ
length_bad = 4

-- buffer above 8,192 bytes
abbrev pub buffer_large : ℕ
buffer_large = 5

-- start + length above 8 times the buffer's bytes
abbrev pub span_outside : ℕ
span_outside = 6

-- slot number not 1..32
abbrev pub slot_number_bad : ℕ
slot_number_bad = 7

-- slot empty
abbrev pub slot_empty : ℕ
slot_empty = 8

-- target slot filled
abbrev pub target_filled : ℕ
target_filled = 9

-- use or direction code unknown
abbrev pub code_unknown : ℕ
code_unknown = 10

-- side above 1 or place above 79
abbrev pub side_or_place_bad : ℕ
side_or_place_bad = 11

-- use doesn't include the direction
abbrev pub direction_not_in_use : ℕ
direction_not_in_use = 12

-- IV side bit wrong
abbrev pub iv_side_wrong : ℕ
iv_side_wrong = 13

-- asked use not within the present use
abbrev pub use_not_within : ℕ
use_not_within = 14

-- record text bad; line and column given
abbrev pub record_text_bad : ℕ
record_text_bad = 15

-- table not 32 records, or a bad slot in it
abbrev pub table_bad : ℕ
table_bad = 16

-- record text longer than the buffer
abbrev pub record_too_long : ℕ
record_too_long = 17

-- PDU kind, state or flag unknown, or PDU above 8,288 bits
abbrev pub pdu_code_unknown : ℕ
pdu_code_unknown = 18

-- PDU parts don't fit
abbrev pub pdu_parts_dont_fit : ℕ
pdu_parts_dont_fit = 19

-- mobile country code above 1,023 or mobile network code above 16,383
abbrev pub network_bad : ℕ
network_bad = 20

-- algorithm out of service (document 02, [9])
abbrev pub algorithm_out_of_service : ℕ
algorithm_out_of_service = 21

-- conversion check (document 02, [11]): a text of records does not read, or repeats a number
abbrev pub conversion_text_bad : ℕ
conversion_text_bad = 22

-- conversion check: above 32 pairs, a number in them that is not there or is repeated, or an after record without a pair
abbrev pub pair_list_bad : ℕ
pair_list_bad = 23

-- conversion check: a pair that widens its use, or differs in another field or the key
abbrev pub pair_differs : ℕ
pair_differs = 24

-- refused with the number where the test holds, else what comes later in the order
abbrev pub refuse : Bool → ℕ → ℕ → ℕ
refuse test number later = pick test number later
